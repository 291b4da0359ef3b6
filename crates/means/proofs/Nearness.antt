-- Why the whole quotient of a mean's pair, with the digits that were cut off, stands for the exact mean.
use Rattle.std.proofs.Common.{◌≡◌, ℕ, ◌+◌, ◌*◌, ◌/◌, ◌%◌, ◌^◌, ◌<◌, ◌≤◌, Bool, not, ◌||◌, eqb, ltb, sym, ap, ◌∙◌, ⊎_elim, mul-le-mul_right, mod-lt, mul-one, arith, lit<}
use Rattle.std.proofs.lemmas.Bool.{cases_eq, eq-eqb, ne_eqb, lt-ltb}
use Rattle.std.proofs.lemmas.Nat.{pow_pos, div-add-mod', mul-le}
use Rattle.rounding.specs.Truncation.{Near}
use Rattle.arithmetic.proofs.Nearness.{near_ratio}

-- S is the sum and B the count, both in the scale of rounding
module _ (S B D N rest q : ℕ) (Bp : 0 < B) (Dp : 0 < D) (parts : N * B + rest ≡ S * D) (below : rest < B) (qe : q ≡ N / D) where
  digits : q * D + N % D ≡ N
  digits = ap (λ (z : ℕ). z * D + N % D) qe ∙ div-add-mod' N D

  left : ℕ
  left = N % D * B + rest

  left_below : left < D * B
  unfolding left
  left_below = omega (arith, mul-le-mul_right B (let p : N % D + 1 ≤ D = omega (arith, mod-lt N Dp) in p))

  whole_parts : S * D ≡ q * (D * B) + left
  unfolding left
  whole_parts = omega (arith, parts, ap (λ (z : ℕ). z * B) digits)

  left_told : (not (eqb (q * D) N) || ltb 0 rest) ≡ ltb 0 left
  unfolding left
  left_told =
      let m : ℕ = N % D in
      ⊎_elim
      (λ (z : N % D ≡ 0).
      let e : N % D * B ≡ 0 * B = ap (λ (k : ℕ). k * B) z in
      let f : N % D * B + rest ≡ rest = omega arith in
      simp (eq-eqb (q * D) N (omega (arith, digits)), f))
      (λ (nz : N % D ≡ 0 → ⊥).
      let some : 1 * 1 ≤ N % D * B = mul-le 1 1 (N % D) B (omega arith) Bp in
      simp (ne_eqb (q * D) N (λ e. omega (arith, digits)), lt-ltb 0 (N % D * B + rest) (omega arith)))
      (cases_eq (N % D) 0)

pub mean_near : (a b D N rest q x : ℕ) (cut : Bool) → 0 < b → 0 < D → N * (b * 2 ^ x) + rest ≡ a * 2 ^ 256 * D → rest < b * 2 ^ x → q ≡ N / D → cut ≡ (not (eqb (q * D) N) || ltb 0 rest) → Near q x cut a b
mean_near a b D N rest q x cut bp Dp parts below qe ce =
    let Bp : 0 < b * 2 ^ x = mul-le 1 1 b (2 ^ x) bp (pow_pos x) in
    let l : ℕ = left (a * 2 ^ 256) (b * 2 ^ x) D N rest q Bp Dp parts below qe in
    near_ratio q (D * (b * 2 ^ x)) l a b x D 1 cut Dp (lit< tt)
    (turned (b * 2 ^ x) D)
    (whole_parts (a * 2 ^ 256) (b * 2 ^ x) D N rest q Bp Dp parts below qe ∙ sym (mul-one (q * (D * (b * 2 ^ x)) + l)))
    (left_below (a * 2 ^ 256) (b * 2 ^ x) D N rest q Bp Dp parts below qe)
    (ce ∙ left_told (a * 2 ^ 256) (b * 2 ^ x) D N rest q Bp Dp parts below qe)
  where
    turned : (B D : ℕ) → B * D ≡ D * B * 1
    turned B D = omega arith
