-- The texts of numbers.
use Rattle.std.specs.Prelude.{◌≡◌, ℕ, zero, suc, ◌+◌, ◌/◌, ◌%◌, ◌<◌, cond, List, [], ◌∷◌, ◌++◌, length, nat_lt, slice_index}

-- the byte of a digit: 0 to 9, then A to F
abbrev pub digit : ℕ → ℕ
digit d = cond (nat_lt d 10) (48 + d) (55 + d)

-- the last k digits of n in a base
unfoldable pub digits : ℕ → ℕ → ℕ → List ℕ
digits base zero n = []
digits base (suc k) n = digits base k (n / base) ++ (digit (n % base) ∷ [])

-- an encoding: eight hexadecimal digits
abbrev pub hex : ℕ → List ℕ
hex n = digits 16 8 n

-- some digits, the first of them 0 only where it is alone
abbrev pub Unpadded : List ℕ → Type 0
Unpadded s = (0 < length s) × (slice_index s 0 ≡ 48 → length s ≡ 1)
