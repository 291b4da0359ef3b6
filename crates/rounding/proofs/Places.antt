-- The place of a value, its whole units and its remainder: whoever meets their three properties is them.
use Rattle.std.proofs.Common.{◌≡◌, ℕ, zero, suc, ◌+◌, ◌*◌, ◌/◌, ◌%◌, ◌^◌, ◌<◌, ◌≤◌, true, false, ltb, ◌⊎◌, sym, refl, ap, ◌∙◌, subst, inl, inr, ⊎_elim, mul-le-mul_right, mod-lt, lt_of_mul-lt-mul_right, mul-lt-mul_of_pos_right, add-one, arith}
use Rattle.std.proofs.lemmas.Bool.{cases_lt, cases_Bool, ltb-true, ltb-false}
use Rattle.std.proofs.lemmas.Nat.{pow_pos, div-add-mod', mul-le}
use Rattle.rounding.specs.Rounding.{doublings, place, unit, whole, remainder, low}
use Rattle.rounding.specs.Format.{significand, shift, value}
use Rattle.rounding.proofs.Values.{pow_next, value_at, value_le, Laid, laid_only}

pub doubled : (n a c : ℕ) → a < c * 2 ^ n → (a < c * 2 ^ doublings n a c) × ((doublings n a c ≡ 0) ⊎ (c * 2 ^ doublings n a c ≤ 2 * a))
unfolding doublings
doubled zero a c lt = (lt, inl refl)
doubled (suc n) a c lt =
    ⊎_elim
    (λ (e : ltb a c ≡ true). rw (e, doublings) (omega (arith, ltb-true a c e), inl refl))
    (λ (e : ltb a c ≡ false).
    let more : 2 ^ suc n ≡ 2 * 2 ^ n = rw add-one at (pow_next n) in
    let rec = doubled n a (2 * c) (omega (arith, ap (λ (z : ℕ). c * z) more)) in
    let j : ℕ = doublings n a (2 * c) in
    let p : 2 ^ suc j ≡ 2 * 2 ^ j = rw add-one at (pow_next j) in
    let q : c * 2 ^ suc j ≡ c * (2 * 2 ^ j) = ap (λ (z : ℕ). c * z) p in
    rw (e, doublings) (
      omega (arith, rec.0, q),
      inr
          (⊎_elim
          (λ (z : doublings n a (2 * c) ≡ 0). let one : 2 ^ j ≡ 1 = ap (λ (i : ℕ). 2 ^ i) z in omega (arith, q, ap (λ (x : ℕ). c * x) one, ltb-false a c e))
          (λ (le : 2 * c * 2 ^ doublings n a (2 * c) ≤ 2 * a). omega (arith, q, le))
          rec.1),
    ))
    (cases_Bool (ltb a c))

pub below_pow : (a : ℕ) → a < 2 ^ a
below_pow zero = omega arith
below_pow (suc a) = omega (arith, below_pow a, rw add-one at (pow_next a))

-- j, m and r are the place, whole units and remainder of a / b
pub record Split (h a b j m r : ℕ) : Type 0 where
  pub parts : m * (b * 2 ^ j) + r ≡ a
  pub left : r < b * 2 ^ j
  pub short : m < 2 * h
  pub full : (j ≡ 0) ⊎ (h ≤ m)

unit_pos : (b j : ℕ) → 0 < b → 0 < b * 2 ^ j
unit_pos b j bp = mul-le 1 1 b (2 ^ j) bp (pow_pos j)

pub splits : (h a b : ℕ) → 0 < h → 0 < b → Split h a b (place h a b) (whole h a b) (remainder h a b)
unfolding place whole remainder unit
splits h a b hp bp =
    let c : ℕ = b * (2 * h) in
    let cp : 1 ≤ b * (2 * h) = mul-le 1 1 b (2 * h) bp (omega arith) in
    let j : ℕ = doublings a a c in
    let enough : a < c * 2 ^ a = omega (arith, below_pow a, mul-le-mul_right (2 ^ a) cp) in
    let d = doubled a a c enough in
    let up : 0 < b * 2 ^ j = unit_pos b j bp in
    let u : ℕ = b * 2 ^ j in
    let parts : a / u * u + a % u ≡ a = div-add-mod' a u in
    let short : a / u < 2 * h = lt_of_mul-lt-mul_right u (omega (arith, d.0, parts)) in
    let full : (j ≡ 0) ⊎ (h ≤ a / u) =
    ⊎_elim (λ z. inl z)
    (λ (le : c * 2 ^ j ≤ 2 * a).
    inr
    (⊎_elim (λ (lt : a / u < h). let t : (a / u + 1) * u ≤ h * u = mul-le-mul_right u (omega arith) in omega (arith, parts, mod-lt a up, le, t))
    (λ (ge : h ≤ a / u). ge) (cases_lt (a / u) h)))
    d.1 in
    record { parts = parts; left = mod-lt a up; short = short; full = full }

-- the greatest size not above the value lies where it should
pub record Low (h a b n : ℕ) : Type 0 where
  pub under : value h n * b ≤ a
  pub over : a < value h (n + 1) * b

pub low_of_split : (h a b j m r : ℕ) → 0 < h → Split h a b j m r → Low h a b (j * h + m)
low_of_split h a b j m r hp s =
    let v : value h (j * h + m) ≡ m * 2 ^ j = value_at h j m hp (omega (arith, s.short)) s.full in
    let e : j * h + (m + 1) ≡ j * h + m + 1 = omega arith in
    let c : (j ≡ 0) ⊎ (h ≤ m + 1) = ⊎_elim (λ z. inl z) (λ z. inr (omega arith)) s.full in
    let w : value h (j * h + m + 1) ≡ (m + 1) * 2 ^ j =
    subst (λ (z : ℕ). value h z ≡ (m + 1) * 2 ^ j) e (value_at h j (m + 1) hp (omega (arith, s.short)) c) in
    record {
      under = omega (arith, ap (λ (z : ℕ). z * b) v, s.parts);
      over = omega (arith, ap (λ (z : ℕ). z * b) w, s.parts, s.left);
    }

pub low_bounds : (h a b : ℕ) → 0 < h → 0 < b → Low h a b (low h a b)
unfolding low
low_bounds h a b hp bp = low_of_split h a b (place h a b) (whole h a b) (remainder h a b) hp (splits h a b hp bp)

-- at most one size has the bounds; and a value not above another has a low not above the other's
pub low_le : (h a b c d n n' : ℕ) → 0 < h → 0 < b → 0 < d → a * d ≤ c * b → Low h a b n → Low h c d n' → n ≤ n'
low_le h a b c d n n' hp bp dp le l l' =
    ⊎_elim
    (λ (lt : n' < n).
    let up : value h (n' + 1) ≤ value h n = value_le h (n' + 1) n hp (omega arith) in
    let p : c * b < value h (n' + 1) * d * b = mul-lt-mul_of_pos_right l'.over bp in
    let q : value h n * b * d ≤ a * d = mul-le-mul_right d l.under in
    let r : value h (n' + 1) * (b * d) ≤ value h n * (b * d) = mul-le-mul_right (b * d) up in
    omega (arith, p, q, r, le))
    (λ (ge : n ≤ n'). ge)
    (cases_lt n' n)

pub low_only : (h a b n n' : ℕ) → 0 < h → 0 < b → Low h a b n → Low h a b n' → n ≡ n'
low_only h a b n n' hp bp l l' =
    omega (arith, low_le h a b a b n n' hp bp bp (omega arith) l l', low_le h a b a b n' n hp bp bp (omega arith) l' l)

-- place and whole units are those of the low
laid_of_split : (h a b j m r : ℕ) → Split h a b j m r → Laid h (j * h + m) j m
laid_of_split h a b j m r s = record { at = refl; short = s.short; full = s.full }

pub low_laid : (h a b : ℕ) → 0 < h → 0 < b → (place h a b ≡ shift h (low h a b)) × (whole h a b ≡ significand h (low h a b))
unfolding low
low_laid h a b hp bp =
    laid_only h (low h a b) (place h a b) (whole h a b) hp
    (laid_of_split h a b (place h a b) (whole h a b) (remainder h a b) (splits h a b hp bp))

-- THE characterisation: code is proved against it
pub split_only : (h a b j m r : ℕ) → 0 < h → 0 < b → Split h a b j m r → (place h a b ≡ j) × (whole h a b ≡ m) × (remainder h a b ≡ r)
unfolding low
split_only h a b j m r hp bp s =
    let t = splits h a b hp bp in
    let same : low h a b ≡ j * h + m = low_only h a b (low h a b) (j * h + m) hp bp (low_bounds h a b hp bp) (low_of_split h a b j m r hp s) in
    let l = low_laid h a b hp bp in
    let k = laid_only h (j * h + m) j m hp (laid_of_split h a b j m r s) in
    let pj : place h a b ≡ j = l.0 ∙ ap (shift h) same ∙ sym k.0 in
    let wm : whole h a b ≡ m = l.1 ∙ ap (significand h) same ∙ sym k.1 in
    let p : m * (b * 2 ^ j) + remainder h a b ≡ a =
    subst (λ (z : ℕ). m * (b * 2 ^ z) + remainder h a b ≡ a) pj (subst (λ (z : ℕ). z * (b * 2 ^ place h a b) + remainder h a b ≡ a) wm t.parts) in
    (pj, wm, omega (arith, p, s.parts))
