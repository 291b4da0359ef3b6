-- A value known by its leading bits, as a divider leaves it.
use Rattle.std.specs.Prelude.{◌≡◌, ℕ, ◌+◌, ◌*◌, ◌^◌, ◌<◌, Bool, true, false, cond, nat_lt}
use Rattle.rounding.specs.declared.rest.Rest.{Rest}
use Rattle.rounding.specs.declared.rest.Rest.TheVariants.{Nothing, UnderHalf, Half, OverHalf}

-- a / b units of the smallest subnormal is quotient * 2^(scale - 256), and somewhat more exactly where cut
pub record Near (quotient scale : ℕ) (cut : Bool) (a b : ℕ) : Type 0 where
  pub more : ℕ
  pub parts : quotient * (b * 2 ^ scale) + more ≡ a * 2 ^ 256
  pub below : more < b * 2 ^ scale
  pub told : cut ≡ nat_lt 0 more

-- n in binary: kept, then one bit (half), then k bits of which some is set exactly where more
pub record Cut (n k kept : ℕ) (half more : Bool) : Type 0 where
  pub tail : ℕ
  pub parts : (2 * kept + cond half 1 0) * 2 ^ k + tail ≡ n
  pub below : tail < 2 ^ k
  pub told : more ≡ nat_lt 0 tail

-- the kind of rest of a bit of half a unit, with more below it or not
abbrev pub rest_of : Bool → Bool → Rest
rest_of false false = Nothing
rest_of false true = UnderHalf
rest_of true false = Half
rest_of true true = OverHalf
