-- Rounding, once: the defined encoding and flags of an exact value under a rule, in any format.
use Rattle.std.specs.Prelude.{ℕ, zero, suc, ◌+◌, ◌-◌, ◌*◌, ◌/◌, ◌%◌, ◌^◌, Bool, true, false, cond, ◌==◌, nat_lt}
use Rattle.rounding.specs.declared.rest.Rest.{Rest}
use Rattle.rounding.specs.declared.rest.Rest.TheVariants.{Nothing, UnderHalf, Half, OverHalf}
use Rattle.rounding.specs.Format.{Format, infinity, joined}
use Rattle.rounding.specs.Exact.{Exact}
use Rattle.rounding.specs.Rules.{Meaning}

-- how often c is doubled until a lies below it, looking no further than n doublings
unfoldable pub doublings : ℕ → ℕ → ℕ → ℕ
doublings zero a c = 0
doublings (suc n) a c = elim (nat_lt a c) [ true ↦ 0 | false ↦ suc (doublings n a (2 * c)) ]

-- Below, h is the weight of the hidden bit, and the value's size is a / b units of the smallest subnormal number.

-- The place: the least j at which a / b is below 2h units of 2^j, so that a significand of h's precision reaches it.
unfoldable pub place : ℕ → ℕ → ℕ → ℕ
place h a b = doublings a a (b * (2 * h))

-- one unit of the last place
unfoldable pub unit : ℕ → ℕ → ℕ → ℕ
unit h a b = b * 2 ^ place h a b

-- the whole units, and what is left of a
unfoldable pub whole : ℕ → ℕ → ℕ → ℕ
whole h a b = a / unit h a b

unfoldable pub remainder : ℕ → ℕ → ℕ → ℕ
remainder h a b = a % unit h a b

-- the kind of a rest of r / u units
unfoldable pub kind : ℕ → ℕ → Rest
kind r u =
    elim (r == 0) [
      | true ↦ Nothing
      | false ↦ elim (nat_lt (2 * r) u) [ true ↦ UnderHalf | false ↦ elim (2 * r == u) [ true ↦ Half | false ↦ OverHalf ] ]
    ]

unfoldable pub rest : ℕ → ℕ → ℕ → Rest
rest h a b = kind (remainder h a b) (unit h a b)

-- the greatest size whose value is not above a / b
unfoldable pub low : ℕ → ℕ → ℕ → ℕ
low h a b = place h a b * h + whole h a b

-- whether a number is odd
unfoldable pub odd : ℕ → Bool
odd n = n % 2 == 1

-- the neighbour that the rule chooses
unfoldable pub chosen : Meaning → Bool → ℕ → ℕ → ℕ → ℕ
chosen m s h a b = cond (m.grow s (odd (whole h a b)) (rest h a b)) 1 0 + low h a b

-- a chosen size that reaches infinity overflows: infinity, or the greatest finite number
unfoldable pub settled : Meaning → Bool → ℕ → ℕ → ℕ
settled m s top n = cond (nat_lt n top) n (cond (m.infinite s) top (top - 1))

-- Flags, as a number: invalid 1, zero divide 2, overflow 4, underflow 8, inexact 16, added up. Tiny is what lies below the
-- smallest normal number, before rounding.
abbrev pub inexact_flags : Rest → Bool → ℕ
inexact_flags Nothing tiny = 0
inexact_flags UnderHalf tiny = cond tiny 24 16
inexact_flags Half tiny = cond tiny 24 16
inexact_flags OverHalf tiny = cond tiny 24 16

unfoldable pub raised : Meaning → Bool → ℕ → ℕ → ℕ → ℕ → ℕ
raised m s h top a b = cond (nat_lt (chosen m s h a b) top) (inexact_flags (rest h a b) (nat_lt a (b * h))) 20

-- an answer: an encoding and the flags that it raised
pub record Outcome : Type 0 where
  pub bits : ℕ
  pub flags : ℕ

-- the size that an exact value is rounded to
abbrev pub rounded_size : Format → Meaning → Exact → ℕ
rounded_size f m v = settled m v.negative (infinity f) (chosen m v.negative f.hidden (v.num * 2 ^ f.scale) v.den)

abbrev pub rounded_flags : Format → Meaning → Exact → ℕ
rounded_flags f m v = raised m v.negative f.hidden (infinity f) (v.num * 2 ^ f.scale) v.den

-- THE definition: the answer to an exact value, under a rule
abbrev pub rounded : Format → Meaning → Exact → Outcome
rounded f m v = record { bits = joined f v.negative (rounded_size f m v); flags = rounded_flags f m v }
