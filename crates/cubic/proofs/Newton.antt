-- A step of Newton's method, how the error shrinks over several, and the product at the end, over plain numbers.
use Rattle.std.proofs.Common.{◌≡◌, ℕ, ◌+◌, ◌*◌, ◌/◌, ◌%◌, ◌^◌, ◌<◌, ◌≤◌, ap, subst, inl, inr, mul-le-mul_right, lt_of_mul-lt-mul_right, mul-le-mul_left, mul-lt-mul_of_pos_right, arith, pow_pos, pow_mono}
use native.Mathlib.Nat.{le_of_mul-le-mul_left}
use Rattle.std.proofs.lemmas.Bool.{cases_lt}
use Rattle.cubic.specs.Reciprocal.{gap, Start, allowed}

-- m d is off by e, one way or the other, and t is off by e the other way: the next, r, is too small by e² and what was cut
exact : (d m t e r c : ℕ) → m * d + e ≡ 2 ^ 55 → t ≡ 2 ^ 55 + e → 2 ^ 55 * r + c ≡ m * t → 2 ^ 55 * (r * d) + c * d + e * e ≡ 2 ^ 110
exact d m t e r c p q s =
    omega (arith, ap (λ (z : ℕ). z * d) s, ap (λ (z : ℕ). z * t) p, ap (λ (z : ℕ). e * z) q)

exact_over : (d m t e r c : ℕ) → m * d ≡ 2 ^ 55 + e → t + e ≡ 2 ^ 55 → 2 ^ 55 * r + c ≡ m * t → 2 ^ 55 * (r * d) + c * d + e * e ≡ 2 ^ 110
exact_over d m t e r c p q s =
    omega (arith, ap (λ (z : ℕ). z * d) s, ap (λ (z : ℕ). z * t) p, ap (λ (z : ℕ). e * z) q)

exact_either : (d m t r c : ℕ) → t + m * d ≡ 2 ^ 56 → 2 ^ 55 * r + c ≡ m * t → 2 ^ 55 * (r * d) + c * d + gap (m * d) (2 ^ 55) * gap (m * d) (2 ^ 55) ≡ 2 ^ 110
exact_either d m t r c p s =
    elim (cases_lt (m * d) (2 ^ 55)) [
      | inl h ↦ exact d m t (gap (m * d) (2 ^ 55)) r c (omega arith) (omega arith) s
      | inr h ↦ exact_over d m t (gap (m * d) (2 ^ 55)) r c (omega arith) (omega arith) s
    ]

-- the same as a bound: g is the gap before
bound : (d r c g : ℕ) → 0 < d → c < 2 ^ 55 → 2 ^ 55 * (r * d) + c * d + g * g ≡ 2 ^ 110 → 2 ^ 55 * gap (r * d) (2 ^ 55) < 2 ^ 55 * d + g * g
bound d r c g p h e = omega (arith, mul-lt-mul_of_pos_right {k = d} h p)

pub step_error : (d m t : ℕ) → 0 < d → t + m * d ≡ 2 ^ 56 → 2 ^ 55 * gap (m * t / 2 ^ 55 * d) (2 ^ 55) < 2 ^ 55 * d + gap (m * d) (2 ^ 55) * gap (m * d) (2 ^ 55)
step_error d m t p e =
    bound d (m * t / 2 ^ 55) (m * t % 2 ^ 55) (gap (m * d) (2 ^ 55)) p (omega arith)
    (exact_either d m t (m * t / 2 ^ 55) (m * t % 2 ^ 55) e (omega arith))

-- the same number of steps, said otherwise
pub moved : (j k e : ℕ) → j ≡ k → e ≤ allowed j → e ≤ allowed k
moved j k e q b = subst (λ (z : ℕ). e ≤ allowed z) q b

-- where a start of so many bits begins, at the scale of the steps
pub begins : (bits d m k : ℕ) → Start bits d m → 2 ^ 55 ≤ 2 ^ bits * allowed k → gap (m * 256 * d) (2 ^ 55) ≤ allowed k
begins bits d m k s a =
    let e : gap (m * 256 * d) (2 ^ 55) ≡ 256 * gap (m * d) (2 ^ 47) = omega arith in
    le_of_mul-le-mul_left (omega (arith, ap (λ (z : ℕ). 2 ^ bits * z) e)) (pow_pos bits)

-- enough bits for so many steps
pub enough : (bits least a : ℕ) → least ≤ bits → 2 ^ 55 ≤ 2 ^ least * a → 2 ^ 55 ≤ 2 ^ bits * a
enough bits least a h b = let p : 2 ^ least ≤ 2 ^ bits = pow_mono h in omega (arith, mul-le-mul_right a p)

-- the product of the dividend and the reciprocal m, cut
module _ (d n m : ℕ) (range : n < 2 ^ 25 * d) (near : gap (m * d) (2 ^ 55) ≤ 10 * 2 ^ 24) where
  positive : 0 < d
  positive = omega arith

  cut : 2 ^ 49 * (n * m / 2 ^ 49 * d) + n * m % 2 ^ 49 * d ≡ n * m * d
  cut = let e : 2 ^ 49 * (n * m / 2 ^ 49) + n * m % 2 ^ 49 ≡ n * m = omega arith in omega (arith, ap (λ (z : ℕ). z * d) e)

  pub product_above : 64 * n < (n * m / 2 ^ 49 + 11) * d
  product_above =
      let h : 2 ^ 55 ≤ m * d + 10 * 2 ^ 24 = omega arith in
      let k : n * m % 2 ^ 49 < 2 ^ 49 = omega arith in
      omega (arith, mul-le-mul_left n h, mul-lt-mul_of_pos_right {k = d} k positive, cut)

  pub product_below : n * m / 2 ^ 49 * d ≤ 64 * n + 10 * d
  product_below =
      let h : m * d ≤ 2 ^ 55 + 10 * 2 ^ 24 = omega arith in
      omega (arith, mul-le-mul_left n h, cut)

  pub product_short : n * m / 2 ^ 49 < 2 ^ 31 + 10
  product_short = lt_of_mul-lt-mul_right d (omega (arith, product_below))
