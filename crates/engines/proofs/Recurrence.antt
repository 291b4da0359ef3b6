-- The restoring recurrence, over plain numbers.
use Rattle.std.proofs.Common.{◌≡◌, ℕ, ◌+◌, ◌*◌, ◌^◌, ◌<◌, ◌≤◌, lt_of_mul-lt-mul_right, arith, pow_pos, pow_mono}
use native.Mathlib.Nat.{mul-lt-mul_of_pos_left}

-- q bits found after i steps are no more than i
pub short : (i q w r n : ℕ) → q * w + r ≡ 2 ^ i * n → n < w → q < 2 ^ i
short i q w r n e h =
    lt_of_mul-lt-mul_right w (omega (arith, mul-lt-mul_of_pos_left {m = n} {n = w} {k = 2 ^ i} h (pow_pos i)))

-- with i steps to go, the bits still fit
pub room : (i q w r n : ℕ) → i < 31 → q * w + r ≡ 2 ^ i * n → n < w → q < 2 ^ 30
room i q w r n h e k =
    let j : i ≤ 30 = omega arith in
    let p : 2 ^ i ≤ 2 ^ 30 = pow_mono j in
    omega (arith, short i q w r n e k)
