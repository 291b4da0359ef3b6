-- What rounding promises, over every format and every lawful rule.
use Rattle.std.specs.Prelude.{◌≡◌, ℕ, ◌*◌, ◌<◌, false}
use Rattle.rounding.specs.Format.{Format, sign_weight, is_nan}
use Rattle.rounding.specs.Exact.{Exact, Less, Same, Between, worth}
use Rattle.rounding.specs.Rules.{Meaning, Lawful}
use Rattle.rounding.specs.Rounding.{rounded}

-- the formats spoken of: a hidden bit with some weight, and at least one exponent field of finite numbers
abbrev pub Proper : Format → Type 0
Proper f = (0 < f.hidden) × (0 < f.special)

-- y is an encoding of the format and no NaN
abbrev pub Valued : Format → ℕ → Type 0
Valued f y = (y < 2 * sign_weight f) × (is_nan f y ≡ false)

-- An exact value that the format has is answered as itself.
abbrev pub KeepsValues : Type 0
KeepsValues = (f : Format) (m : Meaning) (v : Exact) (y : ℕ) → Proper f → Lawful m → 0 < v.den → Valued f y → Same (worth f y) v → Same (worth f (rounded f m v).bits) v

-- No value of the format, infinities included, lies strictly between the answer and the exact value.
abbrev pub Neighbours : Type 0
Neighbours = (f : Format) (m : Meaning) (v : Exact) (y : ℕ) → Proper f → Lawful m → 0 < v.den → Valued f y → Between (worth f y) (worth f (rounded f m v).bits) v → ⊥

-- Equal exact values other than zero have equal encodings and flags.
abbrev pub SameAnswers : Type 0
SameAnswers = (f : Format) (m : Meaning) (v w : Exact) → Proper f → 0 < v.den → 0 < w.den → 0 < v.num → Same v w → rounded f m v ≡ rounded f m w

-- A lesser exact value never has the greater answer.
abbrev pub RisingAnswers : Type 0
RisingAnswers = (f : Format) (m : Meaning) (v w : Exact) → Proper f → Lawful m → 0 < v.den → 0 < w.den → Less v w → Less (worth f (rounded f m w).bits) (worth f (rounded f m v).bits) → ⊥
