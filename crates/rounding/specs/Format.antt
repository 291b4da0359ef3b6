-- What the bits of an encoding mean, for any binary interchange format. An encoding is a number: its sign bit, its exponent field
-- and its fraction, from the top. Its size is what is left without the sign bit.
use Rattle.std.specs.Prelude.{ℕ, ◌+◌, ◌-◌, ◌*◌, ◌/◌, ◌%◌, ◌^◌, Bool, cond, ◌==◌, nat_le, nat_lt}

-- A format: the weight of the hidden bit; the exponent field of infinities and NaNs, below which every field is of finite
-- numbers; and the scale, by which the smallest subnormal number is 2^-scale.
pub record Format : Type 0 where
  pub hidden : ℕ
  pub special : ℕ
  pub scale : ℕ

abbrev pub binary32 : Format
binary32 = record { hidden = 8388608; special = 255; scale = 149 }

-- the size of an infinity: all greater sizes are NaNs, all lesser ones finite
abbrev pub infinity : Format → ℕ
infinity f = f.special * f.hidden

-- the weight of the sign bit
abbrev pub sign_weight : Format → ℕ
sign_weight f = (f.special + 1) * f.hidden

abbrev pub negative : Format → ℕ → Bool
negative f x = nat_le (sign_weight f) x

abbrev pub size : Format → ℕ → ℕ
size f x = x % sign_weight f

-- the encoding of a sign and a size
abbrev pub joined : Format → Bool → ℕ → ℕ
joined f s n = cond s (sign_weight f) 0 + n

abbrev pub is_nan : Format → ℕ → Bool
is_nan f x = nat_lt (infinity f) (size f x)

abbrev pub is_infinite : Format → ℕ → Bool
is_infinite f x = size f x == infinity f

abbrev pub is_finite : Format → ℕ → Bool
is_finite f x = nat_lt (size f x) (infinity f)

abbrev pub is_zero : Format → ℕ → Bool
is_zero f x = size f x == 0

-- the one NaN that is ever answered: quiet, positive, with no payload
abbrev pub quiet : Format → ℕ
quiet f = infinity f + f.hidden / 2

-- A finite size n stands for significand * 2^shift units of the smallest subnormal. Below the hidden bit's weight h (exponent field 0)
-- it is n itself; above, the hidden bit joins the fraction, and each exponent field doubles the unit.
unfoldable pub significand : ℕ → ℕ → ℕ
significand h n = cond (nat_lt n h) n (h + n % h)

unfoldable pub shift : ℕ → ℕ → ℕ
shift h n = n / h - 1

unfoldable pub value : ℕ → ℕ → ℕ
value h n = significand h n * 2 ^ shift h n
