-- Significands brought to 24 bits.
use Rattle.std.proofs.Common.{◌≡◌, ℕ, suc, ◌+◌, ◌-◌, ◌*◌, ◌%◌, ◌^◌, ◌<◌, ◌≤◌, sym, ap, ◌∙◌, subst, ⊎_elim, false, true, mul-le-mul_right, mod-eq_of_lt, mul-le-mul_left, mul-lt-mul_of_pos_right, add-one, arith, lit<}
use lib.Count.{count_leading_zeros}
use native.Mathlib.Nat.{pow-le-pow_right}
use Rattle.std.proofs.lemmas.Bool.{cases_lt, lt-ltb, le-ltb, ltb-true, eqb-false}
use Rattle.std.proofs.lemmas.Nat.{pow_pos, pow-add, leading_top}
use Rattle.rounding.specs.Format.{binary32, size, is_finite, is_zero, significand, shift, value}
use Rattle.rounding.specs.Rounding.{doublings}
use Rattle.rounding.proofs.Values.{pow_next}
use Rattle.rounding.proofs.Places.{doubled}
use Rattle.rounding.proofs.Cuts.{pow_below_inv}
use Rattle.arithmetic.specs.Defined.{aligned}

-- a finite size above zero
pub record Plain (n : ℕ) : Type 0 where
  pub some : 0 < significand 8388608 n
  pub short : significand 8388608 n < 16777216
  pub near : shift 8388608 n ≤ 253

pub plain_of : (n : ℕ) → 0 < n → n < 2139095040 → Plain n
unfolding significand shift
plain_of n np lt =
    ⊎_elim
    (λ (low : n < 8388608). record { some = simp (lt-ltb n 8388608 low) np; short = simp (lt-ltb n 8388608 low) (omega arith); near = omega arith })
    (λ (high : 8388608 ≤ n). record { some = simp (le-ltb n 8388608 high) (omega arith); short = simp (le-ltb n 8388608 high) (omega arith); near = omega arith })
    (cases_lt n 8388608)

-- two scalings of one number into the same 24 bits are one
same_power : (s i j : ℕ) → i < j → 8388608 ≤ s * 2 ^ i → s * 2 ^ j < 16777216 → ⊥
same_power s i j lt ge small =
    let p : 2 ^ (i + 1) ≤ 2 ^ j = pow-le-pow_right {n = 2} (lit< tt) (omega arith) in
    let q : s * 2 ^ (i + 1) ≤ s * 2 ^ j = mul-le-mul_left s p in
    omega (arith, q, ap (λ (z : ℕ). s * z) (pow_next i))

pub aligned_range : (s : ℕ) → 0 < s → s < 16777216 → (8388608 ≤ aligned s) × (aligned s < 16777216)
unfolding aligned
aligned_range s sp lt =
    let d = doubled 24 8388607 s (omega arith) in (
      omega (arith, d.0),
      ⊎_elim
          (λ (z : doublings 24 8388607 s ≡ 0). let e : s * 2 ^ doublings 24 8388607 s ≡ s * 1 = ap (λ (k : ℕ). s * 2 ^ k) z in omega arith)
          (λ (le : s * 2 ^ doublings 24 8388607 s ≤ 2 * 8388607). omega arith)
          d.1,
    )

pub aligned_only : (s i : ℕ) → 0 < s → s < 16777216 → 8388608 ≤ s * 2 ^ i → s * 2 ^ i < 16777216 → aligned s ≡ s * 2 ^ i
unfolding aligned
aligned_only s i sp lt ge small =
    let r = aligned_range s sp lt in
    let j : ℕ = doublings 24 8388607 s in
    let e : j ≡ i =
    ⊎_elim (λ (l : j < i). absurd (same_power s j i l r.0 small))
    (λ (g : i ≤ j). ⊎_elim (λ (l : i < j). absurd (same_power s i j l ge r.1)) (λ (le : j ≤ i). omega arith) (cases_lt i j))
    (cases_lt j i) in
    ap (λ (k : ℕ). s * 2 ^ k) e

-- the code's lift, from the leading zeros
pub record Lifted (s k : ℕ) : Type 0 where
  pub few : k ≤ 23
  pub enough : 8 ≤ count_leading_zeros 32 s
  pub at_least : 8388608 ≤ s * 2 ^ k
  pub less_than : s * 2 ^ k < 16777216
  pub is : aligned s ≡ s * 2 ^ k

pub lifted : (s : ℕ) → 0 < s → s < 16777216 → Lifted s (count_leading_zeros 32 s - 8)
lifted s sp lt =
    let t = leading_top 32 s sp (omega arith) in
    let j : ℕ = t.0 in
    let z : count_leading_zeros 32 s + suc j ≡ 32 = t.1 in
    let short : j < 24 = pow_below_inv j 24 (omega (arith, t.2)) in
    let k : ℕ = count_leading_zeros 32 s - 8 in
    let e : j + k ≡ 23 = omega arith in
    let w : 2 ^ j * 2 ^ k ≡ 2 ^ 23 = sym (pow-add 2 j k) ∙ ap (λ (i : ℕ). 2 ^ i) e in
    let low : 2 ^ j * 2 ^ k ≤ s * 2 ^ k = mul-le-mul_right (2 ^ k) t.2 in
    let nx : 2 ^ suc j ≡ 2 * 2 ^ j = rw add-one at (pow_next j) in
    let high : s * 2 ^ k < 2 ^ suc j * 2 ^ k = mul-lt-mul_of_pos_right t.3 (pow_pos k) in
    let hi : 2 ^ suc j * 2 ^ k ≡ 2 * 2 ^ j * 2 ^ k = ap (λ (i : ℕ). i * 2 ^ k) nx in
    let ge : 8388608 ≤ s * 2 ^ k = omega arith in
    let sm : s * 2 ^ k < 16777216 = omega arith in
    record { few = omega arith; enough = omega arith; at_least = ge; less_than = sm; is = aligned_only s k sp lt ge sm }

-- the value by the scaled bits
pub scaled_value : (n k : ℕ) → k ≤ 23 → value 8388608 n * 8388608 ≡ (significand 8388608 n * 2 ^ k) * 2 ^ (shift 8388608 n + 23 - k)
unfolding value
scaled_value n k le =
    let s : ℕ = significand 8388608 n in
    let h : ℕ = shift 8388608 n in
    let e : k + (h + 23 - k) ≡ h + 23 = omega arith in
    let p : 2 ^ k * 2 ^ (h + 23 - k) ≡ 2 ^ h * 2 ^ 23 = sym (pow-add 2 k (h + 23 - k)) ∙ ap (λ (i : ℕ). 2 ^ i) e ∙ pow-add 2 h 23 in
    omega (arith, ap (λ (i : ℕ). s * i) p)

-- all that the code's two numbers are good for
pub record Scales (n s h : ℕ) : Type 0 where
  pub zeros : 8 ≤ count_leading_zeros 32 s
  pub few : count_leading_zeros 32 s - 8 ≤ 23
  pub near : h ≤ 253
  pub whole : (s * 2 ^ (count_leading_zeros 32 s - 8)) % 4294967296 ≡ s * 2 ^ (count_leading_zeros 32 s - 8)
  pub bits : s * 2 ^ (count_leading_zeros 32 s - 8) ≡ aligned (significand 8388608 n)
  pub at_least : 8388608 ≤ s * 2 ^ (count_leading_zeros 32 s - 8)
  pub less_than : s * 2 ^ (count_leading_zeros 32 s - 8) < 16777216
  pub worth : value 8388608 n * 8388608 ≡ (s * 2 ^ (count_leading_zeros 32 s - 8)) * 2 ^ (h + 23 - (count_leading_zeros 32 s - 8))

pub scales : (x s h : ℕ) → s ≡ significand 8388608 (size binary32 x) → h ≡ shift 8388608 (size binary32 x) → is_finite binary32 x ≡ true → is_zero binary32 x ≡ false → Scales (size binary32 x) s h
scales x s h se he f z =
    let n : ℕ = size binary32 x in
    let p = plain_of n (omega (arith, eqb-false n 0 z)) (ltb-true n 2139095040 f) in
    let l : Lifted s (count_leading_zeros 32 s - 8) = lifted s (omega (arith, p.some)) (omega (arith, p.short)) in
    let k : ℕ = count_leading_zeros 32 s - 8 in
    let v = scaled_value n k l.few in
    let w : value 8388608 n * 8388608 ≡ (s * 2 ^ k) * 2 ^ (h + 23 - k) =
    subst (λ (z : ℕ). value 8388608 n * 8388608 ≡ (z * 2 ^ k) * 2 ^ (h + 23 - k)) (sym se)
    (subst (λ (z : ℕ). value 8388608 n * 8388608 ≡ (significand 8388608 n * 2 ^ k) * 2 ^ (z + 23 - k)) (sym he) v) in
    record {
      zeros = l.enough;
      few = l.few;
      near = omega (arith, p.near);
      whole = mod-eq_of_lt (omega (arith, l.less_than));
      bits = sym l.is ∙ ap aligned se;
      at_least = l.at_least;
      less_than = l.less_than;
      worth = w;
    }
