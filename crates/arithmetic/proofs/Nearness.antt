-- Why a whole quotient, with its scale, stands for an exact value.
use Rattle.std.proofs.Common.{◌≡◌, ℕ, ◌+◌, ◌-◌, ◌*◌, ◌/◌, ◌%◌, ◌^◌, ◌<◌, ◌≤◌, Bool, false, not, eqb, ltb, sym, refl, ap, ◌∙◌, ⊎_elim, add-zero, mod-lt, lt_of_mul-lt-mul_right, mul-lt-mul_of_pos_right, le_of_mul-le-mul_right, arith, lit<}
use Rattle.std.proofs.lemmas.Bool.{cases_eq, eq-eqb, ne_eqb, lt-ltb, le-ltb}
use Rattle.std.proofs.lemmas.Nat.{pow_pos, pow-add, div-add-mod', mul-le}
use Rattle.rounding.specs.Truncation.{Near}

-- A / B is q and r d-ths, in any common scale
module _ (q d r A B C G : ℕ) (Cp : 0 < C) (Gp : 0 < G) (under : B * C ≡ d * G) (over : A * C ≡ (q * d + r) * G) (small : r < d) where
  scaled_under : (B * C) * q ≡ (d * G) * q
  scaled_under = ap (λ (z : ℕ). z * q) under

  whole_under : q * B ≤ A
  whole_under = le_of_mul-le-mul_right {k = C} (let w : q * B * C ≤ A * C = omega (arith, scaled_under) in w) Cp

  next_over : A < q * B + B
  next_over =
      lt_of_mul-lt-mul_right C
      (let g : r * G < d * G = mul-lt-mul_of_pos_right small Gp in
      let w : A * C < (q * B + B) * C = omega (arith, scaled_under) in w)

  rest_told : ltb 0 r ≡ ltb 0 (A - q * B)
  rest_told =
      ⊎_elim
      (λ (z : r ≡ 0).
      let e : r * G ≡ 0 * G = ap (λ (x : ℕ). x * G) z in
      let w : A ≤ q * B = le_of_mul-le-mul_right {k = C} (let w : A * C ≤ q * B * C = omega (arith, scaled_under) in w) Cp in
      le-ltb 0 r (omega arith) ∙ sym (le-ltb 0 (A - q * B) (omega arith)))
      (λ (nz : r ≡ 0 → ⊥).
      let g : 1 * 1 ≤ r * G = mul-le 1 1 r G (omega arith) Gp in
      let w : q * B < A = lt_of_mul-lt-mul_right C (let w : q * B * C < A * C = omega (arith, scaled_under) in w) in
      lt-ltb 0 r (omega arith) ∙ sym (lt-ltb 0 (A - q * B) (omega arith)))
      (cases_eq r 0)

pub near_ratio : (q d r a b x C G : ℕ) (cut : Bool) → 0 < C → 0 < G → (b * 2 ^ x) * C ≡ d * G → (a * 2 ^ 256) * C ≡ (q * d + r) * G → r < d → cut ≡ ltb 0 r → Near q x cut a b
near_ratio q d r a b x C G cut Cp Gp under over small told =
    let p = at (a * 2 ^ 256) (b * 2 ^ x) under over in record { more = p.more; parts = p.parts; below = p.below; told = p.told }
  where
    at : (A B : ℕ) → B * C ≡ d * G → A * C ≡ (q * d + r) * G → record { more : ℕ; parts : q * B + more ≡ A; below : more < B; told : cut ≡ ltb 0 more }
    at A B u o =
        let le = whole_under q d r A B C G Cp Gp u o small in
        let lt = next_over q d r A B C G Cp Gp u o small in
        record { more = A - q * B; parts = omega arith; below = omega arith; told = told ∙ rest_told q d r A B C G Cp Gp u o small }

-- The quotient's case. K, L and M stand for 2^149, 2^256 and 2^405, which no tactic should compute.
scaled_over : (vx sx px n x py extra K L M : ℕ) → vx * 8388608 ≡ sx * 2 ^ px → n ≡ sx * 2 ^ extra → x + py + extra ≡ px + 405 → K * L ≡ M → M ≡ 2 ^ 405 → vx * K * L * 8388608 ≡ n * 2 ^ (x + py)
scaled_over vx sx px n x py extra K L M ve ne e kl m =
    let p : 2 ^ (x + py) * 2 ^ extra ≡ 2 ^ px * M =
    sym (pow-add 2 (x + py) extra) ∙ ap (λ (z : ℕ). 2 ^ z) e ∙ pow-add 2 px 405 ∙ ap (λ (z : ℕ). 2 ^ px * z) (sym m) in
    let a : (vx * 8388608) * (K * L) ≡ (sx * 2 ^ px) * (K * L) = ap (λ (z : ℕ). z * (K * L)) ve in
    let b : (sx * 2 ^ px) * (K * L) ≡ (sx * 2 ^ px) * M = ap (λ (z : ℕ). (sx * 2 ^ px) * z) kl in
    let c : sx * (2 ^ (x + py) * 2 ^ extra) ≡ sx * (2 ^ px * M) = ap (λ (z : ℕ). sx * z) p in
    let d : n * 2 ^ (x + py) ≡ (sx * 2 ^ extra) * 2 ^ (x + py) = ap (λ (z : ℕ). z * 2 ^ (x + py)) ne in
    omega arith

scaled_under_by : (vy d x py : ℕ) → vy * 8388608 ≡ d * 2 ^ py → (vy * 2 ^ x) * 8388608 ≡ d * 2 ^ (x + py)
scaled_under_by vy d x py e = omega (arith, ap (λ (z : ℕ). z * 2 ^ x) e, ap (λ (z : ℕ). d * z) (pow-add 2 x py))

pub quotient_near : (vx vy sx d px py n q x extra : ℕ) (cut : Bool) → 0 < d → vx * 8388608 ≡ sx * 2 ^ px → vy * 8388608 ≡ d * 2 ^ py → n ≡ sx * 2 ^ extra → x + py + extra ≡ px + 405 → q ≡ n / d → cut ≡ not (eqb (q * d) n) → Near q x cut (vx * 2 ^ 149) vy
quotient_near vx vy sx d px py n q x extra cut dp ve we ne e qe ce =
    let s : q * d + n % d ≡ n = ap (λ (z : ℕ). z * d + n % d) qe ∙ div-add-mod' n d in
    let G : ℕ = 2 ^ (x + py) in
    let o : vx * 2 ^ 149 * 2 ^ 256 * 8388608 ≡ (q * d + n % d) * G =
    scaled_over vx sx px n x py extra (2 ^ 149) (2 ^ 256) (2 ^ 405) ve ne e refl refl ∙ ap (λ (z : ℕ). z * G) (sym s) in
    let told : not (eqb (q * d) n) ≡ ltb 0 (n % d) =
    ⊎_elim
    (λ (z : n % d ≡ 0). simp (eq-eqb (q * d) n (omega arith), le-ltb 0 (n % d) (omega arith)))
    (λ (nz : n % d ≡ 0 → ⊥). simp (ne_eqb (q * d) n (λ i. omega arith), lt-ltb 0 (n % d) (omega arith)))
    (cases_eq (n % d) 0) in
    near_ratio q d (n % d) (vx * 2 ^ 149) vy x 8388608 G cut (lit< tt) (pow_pos (x + py)) (scaled_under_by vy d x py we) o (mod-lt n dp) (ce ∙ told)

-- The square's case, where nothing is cut off. A, B, K and L stand for 2^298, 2^61, 2^149 and 2^256.
squared : (v s P A B K L : ℕ) → v * 8388608 ≡ s * P → A * B * 70368744177664 ≡ K * L → s * s * (A * (P * P * B)) ≡ v * v * K * L
squared v s P A B K L e kl =
    let a : (v * 8388608) * (v * 8388608) ≡ (s * P) * (s * P) = ap (λ (z : ℕ). z * z) e in
    let b : (v * 8388608) * (v * 8388608) * (A * B) ≡ (s * P) * (s * P) * (A * B) = ap (λ (z : ℕ). z * (A * B)) a in
    let c : (A * B * 70368744177664) * (v * v) ≡ (K * L) * (v * v) = ap (λ (z : ℕ). z * (v * v)) kl in
    omega arith

pub square_near : (v s p x : ℕ) → v * 8388608 ≡ s * 2 ^ p → x ≡ 2 * p + 61 → Near (s * s) x false (v * v * 2 ^ 149) (2 ^ 298)
square_near v s p x e xe =
    let d : 2 * p ≡ p + p = omega arith in
    let w : 2 ^ x ≡ 2 ^ p * 2 ^ p * 2 ^ 61 =
    ap (λ (z : ℕ). 2 ^ z) xe ∙ pow-add 2 (2 * p) 61 ∙ ap (λ (z : ℕ). z * 2 ^ 61) (ap (λ (z : ℕ). 2 ^ z) d ∙ pow-add 2 p p) in
    let q : s * s * (2 ^ 298 * 2 ^ x) ≡ v * v * 2 ^ 149 * 2 ^ 256 =
    ap (λ (z : ℕ). s * s * (2 ^ 298 * z)) w ∙ squared v s (2 ^ p) (2 ^ 298) (2 ^ 61) (2 ^ 149) (2 ^ 256) e refl in
    record { more = 0; parts = add-zero (s * s * (2 ^ 298 * 2 ^ x)) ∙ q; below = mul-le 1 1 (2 ^ 298) (2 ^ x) (pow_pos 298) (pow_pos x); told = refl }
