-- Replies as numbers, and what a list of them adds up to, exactly.
use Rattle.std.specs.Prelude.{◌≡◌, ℕ, ◌+◌, ◌-◌, ◌*◌, ◌/◌, Bool, true, false, cond, List, [], ◌∷◌, ℤ, pos, negsuc, ◌+ℤ◌, neg_ℤ, sum_by}
use Rattle.rounding.specs.declared.encoding.Encoding.{Encoding}
use Rattle.rounding.specs.Format.{binary32, negative, size, is_finite, significand, value}

abbrev pub Finite : Encoding → Type 0
Finite e = is_finite binary32 e.bits ≡ true

-- the exponent field
abbrev pub field_of : Encoding → ℕ
field_of e = size binary32 e.bits / 8388608

-- a number with the sign of a reply
abbrev pub with_sign : Encoding → ℕ → ℤ
with_sign e n = cond (negative binary32 e.bits) (neg_ℤ (pos n)) (pos n)

-- its significand, signed and squared
unfoldable pub signed_of : Encoding → ℤ
signed_of e = with_sign e (significand 8388608 (size binary32 e.bits))

unfoldable pub square_of : Encoding → ℕ
square_of e = significand 8388608 (size binary32 e.bits) * significand 8388608 (size binary32 e.bits)

-- its value in units of 2^-149, and the square of that in units of 2^-298
unfoldable pub worth_of : Encoding → ℤ
worth_of e = with_sign e (value 8388608 (size binary32 e.bits))

unfoldable pub worth_squared : Encoding → ℕ
worth_squared e = value 8388608 (size binary32 e.bits) * value 8388608 (size binary32 e.bits)

-- a number in the order of the values, by which code compares them
unfoldable pub rank : Encoding → ℕ
rank e = cond (negative binary32 e.bits) (2147483648 - size binary32 e.bits) (2147483648 + size binary32 e.bits)

-- the sum of a signed number over a list
unfoldable pub sum_z : (Encoding → ℤ) → List Encoding → ℤ
sum_z f [] = pos 0
sum_z f (x ∷ xs) = f x +ℤ sum_z f xs

-- The exact sums: of the replies, and of their squares.
abbrev pub total : List Encoding → ℤ
total xs = sum_z worth_of xs

abbrev pub total_squares : List Encoding → ℕ
total_squares xs = sum_by worth_squared xs

abbrev pub below_zero : ℤ → Bool
below_zero (pos n) = false
below_zero (negsuc n) = true
