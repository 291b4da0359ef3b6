-- The four classes of encodings, by the tests that tell them apart.
use Rattle.std.specs.Prelude.{◌≡◌, ℕ, Bool, true, false}
use Rattle.rounding.specs.Format.{binary32, is_nan, is_infinite, is_finite, is_zero}
use Rattle.arithmetic.specs.declared.class.Class.{Class}
use Rattle.arithmetic.specs.declared.class.Class.TheVariants.{Zero, Number, Infinity, Nan}

pub record Tests (x : ℕ) (nan infinite finite zero : Bool) : Type 0 where
  pub nan_is : is_nan binary32 x ≡ nan
  pub infinite_is : is_infinite binary32 x ≡ infinite
  pub finite_is : is_finite binary32 x ≡ finite
  pub zero_is : is_zero binary32 x ≡ zero

abbrev pub Classed : ℕ → Class → Type 0
Classed x Zero = Tests x false false true true
Classed x Number = Tests x false false true false
Classed x Infinity = Tests x false true false false
Classed x Nan = Tests x true false false false
