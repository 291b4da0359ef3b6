-- How the parts of a line stand together.
use Rattle.std.specs.Prelude.{ℕ, ◌<◌, List, [], ◌∷◌, ◌++◌, length, ◌≢◌, slice_index}

-- x between a head and a closing parenthesis
abbrev pub group : List ℕ → List ℕ → List ℕ
group head x = head ++ (x ++ 41 ∷ [])

-- no space stands in s
abbrev pub Solid : List ℕ → Type 0
Solid s = (i : ℕ) → i < length s → slice_index s i ≢ 32

-- two parts with a space between them
abbrev pub pair : List ℕ × List ℕ → List ℕ
pair p = p.0 ++ (32 ∷ p.1)

-- the space between them is the first
abbrev pub Apart : List ℕ × List ℕ → Type 0
Apart p = Solid p.0
