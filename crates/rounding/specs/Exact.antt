-- Exact values: a sign, a numerator and a divisor, compared by cross products.
use Rattle.std.specs.Prelude.{ℕ, ◌+◌, ◌*◌, ◌^◌, ◌<◌, Bool, true, false, cond, ◌⊎◌}
use Rattle.rounding.specs.Format.{Format, negative, size, is_infinite, value}

-- num / den with a sign. Exact values of calls have a den above 0. An infinity is written 1 / 0, which the cross products
-- place beyond every number of its sign.
pub record Exact : Type 0 where
  pub negative : Bool
  pub num : ℕ
  pub den : ℕ

-- one is less than the other; both zeros are equal
abbrev pub LessSigned : Bool → Bool → (a b c d : ℕ) → Type 0
LessSigned false false a b c d = a * d < c * b
LessSigned true true a b c d = c * b < a * d
LessSigned true false a b c d = 0 < a + c
LessSigned false true a b c d = ⊥

abbrev pub Less : Exact → Exact → Type 0
Less v w = LessSigned v.negative w.negative v.num v.den w.num w.den

-- neither is less
abbrev pub Same : Exact → Exact → Type 0
Same v w = (Less v w → ⊥) × (Less w v → ⊥)

-- what the encoding x is worth, where it is no NaN
abbrev pub worth : Format → ℕ → Exact
worth f x = record { negative = negative f x; num = cond (is_infinite f x) 1 (value f.hidden (size f x)); den = cond (is_infinite f x) 0 (2 ^ f.scale) }

-- y lies strictly between v and w
abbrev pub Between : Exact → Exact → Exact → Type 0
Between y v w = (Less v y × Less y w) ⊎ (Less w y × Less y v)
