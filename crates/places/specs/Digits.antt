-- Numbers by their binary digits.
use Rattle.std.specs.Prelude.{ℕ, ◌+◌, ◌*◌, Bool, true, false, List, [], ◌∷◌}

abbrev pub bit : Bool → ℕ
bit true = 1
bit false = 0

-- the number with these digits, lowest first
unfoldable pub bits_value : List Bool → ℕ
bits_value [] = 0
bits_value (b ∷ bs) = bit b + 2 * bits_value bs
