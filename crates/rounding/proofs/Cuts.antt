-- Bits kept and dropped: what the code's shifts make of a quotient, and why that splits the value at its last place.
use Rattle.std.proofs.Common.{◌≡◌, ℕ, suc, ◌+◌, ◌-◌, ◌*◌, ◌/◌, ◌%◌, ◌^◌, ◌<◌, ◌≤◌, Bool, true, false, cond, not, eqb, sym, ap, subst, ⊎_elim, mul-le-mul_right, mod-lt, mod-eq_of_lt, lt_of_mul-lt-mul_right, mul-le-mul_left, le_of_mul-le-mul_right, arith, lit<}
use lib.Count.{count_leading_zeros}
use native.Mathlib.Nat.{pow-le-pow_right}
use Rattle.std.proofs.lemmas.Bool.{cases_lt, cases_eq, eq-eqb, ne_eqb, lt-ltb, le-ltb}
use Rattle.std.proofs.lemmas.Nat.{pow_pos, pow-add, leading_top, div-add-mod', mul-le}
use Rattle.rounding.specs.Truncation.{Cut}

pub pow_below_inv : (i j : ℕ) → 2 ^ i < 2 ^ j → i < j
pow_below_inv i j lt =
    ⊎_elim (λ (z : i < j). z) (λ (ge : j ≤ i). let p : 2 ^ j ≤ 2 ^ i = pow-le-pow_right {n = 2} (lit< tt) ge in absurd (omega arith)) (cases_lt i j)

pub record Long (n r : ℕ) : Type 0 where
  pub low_end : 25 ≤ r
  pub high_end : r ≤ 64
  pub at_least : 2 ^ (r - 1) ≤ n
  pub less_than : n < 2 ^ r

pub long : (n : ℕ) → 16777216 ≤ n → n < 2 ^ 64 → Long n (64 - count_leading_zeros 64 n)
long n ge lt =
    let t = leading_top 64 n (omega arith) lt in
    let j : ℕ = t.0 in
    let e : 64 - count_leading_zeros 64 n ≡ suc j = omega (arith, t.1) in
    let some : 24 < suc j = pow_below_inv 24 (suc j) (omega (arith, t.3, ge)) in
    subst (λ (r : ℕ). Long n r) (sym e)
    (record { low_end = omega arith; high_end = omega (arith, t.1); at_least = let d : suc j - 1 ≡ j = omega arith in rw d t.2; less_than = t.3 })

parity : (u : ℕ) → 2 * (u / 2) + cond (eqb (u % 2) 1) 1 0 ≡ u
parity u =
    ⊎_elim (λ (e : u % 2 ≡ 1). simp (eq-eqb (u % 2) 1 e) (omega arith)) (λ (ne : u % 2 ≡ 1 → ⊥). simp (ne_eqb (u % 2) 1 ne) (omega arith)) (cases_eq (u % 2) 1)

pub cut_near : (q k : ℕ) → q < 2 ^ 64 → Cut q k (q / 2 ^ k / 2) (eqb (q / 2 ^ k % 2) 1) (not (eqb ((q / 2 ^ k * 2 ^ k) % 18446744073709551616) q))
cut_near q k lt =
    let u : ℕ = q / 2 ^ k in
    let s : u * 2 ^ k + q % 2 ^ k ≡ q = div-add-mod' q (2 ^ k) in
    let p = parity u in
    let w : (u * 2 ^ k) % 18446744073709551616 ≡ u * 2 ^ k = mod-eq_of_lt (omega arith) in
    record {
      tail = q % 2 ^ k;
      parts = rw p s;
      below = mod-lt q (pow_pos k);
      told = rw w (⊎_elim
          (λ (z : q % 2 ^ k ≡ 0). simp (eq-eqb (u * 2 ^ k) q (omega arith), le-ltb 0 (q % 2 ^ k) (omega arith)))
          (λ (nz : q % 2 ^ k ≡ 0 → ⊥). simp (ne_eqb (u * 2 ^ k) q (λ e. omega arith), lt-ltb 0 (q % 2 ^ k) (omega arith)))
          (cases_eq (q % 2 ^ k) 0));
    }

pub cut_far : (q k : ℕ) → 0 < q → q < 2 ^ 64 → 64 ≤ k → Cut q k 0 false true
cut_far q k qp lt far =
    let p : 2 ^ 64 ≤ 2 ^ k = pow-le-pow_right {n = 2} (lit< tt) far in
    record { tail = q; parts = omega arith; below = omega arith; told = sym (lt-ltb 0 q qp) }

-- how many bits are kept
module _ (q k kept : ℕ) (half more : Bool) (cut : Cut q k kept half more) where
  bit : cond {A = ℕ} half 1 0 ≤ 1
  bit = elim half as (λ (v : Bool). cond {A = ℕ} v 1 0 ≤ 1) [ true ↦ omega arith | false ↦ omega arith ]

  pub kept_short : (l : ℕ) → q < 2 ^ l → l ≤ k + 25 → kept < 16777216
  kept_short l lt le =
      let p : 2 ^ l ≤ 2 ^ (k + 25) = pow-le-pow_right {n = 2} (lit< tt) le in
      let e : 2 ^ (k + 25) ≡ 2 ^ k * 2 ^ 25 = pow-add 2 k 25 in
      ⊎_elim (λ z. z)
      (λ (ge : 16777216 ≤ kept). let w : 16777216 * 2 ^ k ≤ kept * 2 ^ k = mul-le-mul_right (2 ^ k) ge in absurd (omega (arith, cut.parts)))
      (cases_lt kept 16777216)

  pub kept_full : 2 ^ (k + 24) ≤ q → 8388608 ≤ kept
  kept_full ge =
      let e : 2 ^ (k + 24) ≡ 2 ^ k * 2 ^ 24 = pow-add 2 k 24 in
      ⊎_elim
      (λ (lt : kept < 8388608).
      let w : (2 * kept + cond half 1 0 + 1) * 2 ^ k ≤ 16777216 * 2 ^ k = mul-le-mul_right (2 ^ k) (omega (arith, bit)) in
      absurd (omega (arith, cut.parts, cut.below)))
      (λ z. z)
      (cases_lt kept 8388608)

-- The core, over plain numbers: K is the bias, X the scale, J the place and P the weight below the half bit.
module _ (q a b K X J P rho kept bit t : ℕ) (bp : 0 < b) (Kp : 0 < K) (Xp : 0 < X) (Pp : 0 < P) (scaled : J * K ≡ X * (2 * P)) (parts : q * (b * X) + rho ≡ a * K) (below : rho < b * X) (cuts : (2 * kept + bit) * P + t ≡ q) (small : t < P) (one : bit ≤ 1) where
  over_place : (J * K) * b ≡ (X * (2 * P)) * b
  over_place = ap (λ (z : ℕ). z * b) scaled

  whole_le : kept * (b * J) ≤ a
  whole_le =
      le_of_mul-le-mul_right {k = K}
      (let e : (J * K) * (kept * b) ≡ (X * (2 * P)) * (kept * b) = ap (λ (z : ℕ). z * (kept * b)) scaled in
      let d : ((2 * kept + bit) * P + t) * (b * X) ≡ q * (b * X) = ap (λ (z : ℕ). z * (b * X)) cuts in
      let w : kept * (b * J) * K ≤ a * K = omega arith in w)
      Kp

  pub left_over : ℕ
  left_over = a - kept * (b * J)

  pub left_parts : kept * (b * J) + left_over ≡ a
  unfolding left_over
  left_parts = omega (arith, whole_le)

  left_scaled : left_over * K ≡ (bit * P + t) * (b * X) + rho
  left_scaled =
      let e : (J * K) * (kept * b) ≡ (X * (2 * P)) * (kept * b) = ap (λ (z : ℕ). z * (kept * b)) scaled in
      let d : ((2 * kept + bit) * P + t) * (b * X) ≡ q * (b * X) = ap (λ (z : ℕ). z * (b * X)) cuts in
      let f : (kept * (b * J) + left_over) * K ≡ a * K = ap (λ (z : ℕ). z * K) left_parts in
      omega arith

  bit_room : bit * P + t + 1 ≤ 2 * P
  bit_room = omega (arith, mul-le-mul_right P one)

  pub left_below : left_over < b * J
  left_below =
      lt_of_mul-lt-mul_right K
      (let w : (bit * P + t + 1) * (b * X) ≤ 2 * P * (b * X) = mul-le-mul_right (b * X) bit_room in
      let r : left_over * K < b * J * K = omega (arith, left_scaled, over_place) in r)

  unit_pos : 0 < b * X
  unit_pos = mul-le 1 1 b X bp Xp

  -- nothing below the half bit
  pub left_even : t ≡ 0 → rho ≡ 0 → 2 * left_over ≡ bit * (b * J)
  left_even tz rz =
      let e : t * (b * X) ≡ 0 * (b * X) = ap (λ (z : ℕ). z * (b * X)) tz in
      let o : (J * K) * (bit * b) ≡ (X * (2 * P)) * (bit * b) = ap (λ (z : ℕ). z * (bit * b)) scaled in
      let p : 2 * left_over * K ≤ bit * (b * J) * K = omega (arith, left_scaled) in
      let r : bit * (b * J) * K ≤ 2 * left_over * K = omega (arith, left_scaled) in
      omega (arith, le_of_mul-le-mul_right p Kp, le_of_mul-le-mul_right r Kp)

  -- something below it
  pub left_odd : 0 < t + rho → (bit * (b * J) < 2 * left_over) × (2 * left_over < (bit + 1) * (b * J))
  left_odd some =
      let o : (J * K) * (bit * b) ≡ (X * (2 * P)) * (bit * b) = ap (λ (z : ℕ). z * (bit * b)) scaled in
      let up : t + 1 ≤ P = omega arith in
      let w : (t + 1) * (b * X) ≤ P * (b * X) = mul-le-mul_right (b * X) up in
      let c : t ≤ t * (b * X) = omega (arith, mul-le-mul_left t unit_pos) in
      let p : bit * (b * J) * K < 2 * left_over * K = omega (arith, left_scaled) in
      let r : 2 * left_over * K < (bit + 1) * (b * J) * K = omega (arith, left_scaled, over_place) in
      (lt_of_mul-lt-mul_right K p, lt_of_mul-lt-mul_right K r)
