-- The value of a size: at each place and significand, and strictly rising.
use Rattle.std.proofs.Common.{◌≡◌, ℕ, zero, suc, ◌+◌, ◌-◌, ◌*◌, ◌/◌, ◌%◌, ◌^◌, ◌<◌, ◌≤◌, ◌⊎◌, sym, refl, ap, ◌∙◌, subst, inl, inr, ⊎_elim, mod-lt, add-one, arith}
use native.Mathlib.Nat.{pow-succ', div-eq_of_lt}
use Rattle.std.proofs.lemmas.Bool.{cases_lt, lt-ltb, le-ltb}
use Rattle.std.proofs.lemmas.Nat.{pow_pos, div-mul-add, mod-mul-add, div-add-mod', le-div}
use Rattle.rounding.specs.Format.{significand, shift, value}

pub pow_next : (k : ℕ) → 2 ^ (k + 1) ≡ 2 * 2 ^ k
pow_next k = rw add-one (pow-succ' 2 k)

-- where the exponent field is 0
pub value_low : (h n : ℕ) → n < h → value h n ≡ n
unfolding value significand shift
value_low h n lt = simp (lt-ltb n h lt, div-eq_of_lt lt) (omega arith)

-- where it is e + 1
pub value_high : (h e t : ℕ) → t < h → value h ((e + 1) * h + t) ≡ (h + t) * 2 ^ e
unfolding value significand shift
value_high h e t lt =
    let big : h ≤ (e + 1) * h + t = omega arith in
    let d : e + 1 - 1 ≡ e = omega arith in
    simp (le-ltb ((e + 1) * h + t) h big, div-mul-add (e + 1) h t lt, mod-mul-add (e + 1) h t lt, d)

-- A significand m at place j; m may reach 2h, so that a carry into the next place costs nothing.
pub value_at : (h j m : ℕ) → 0 < h → m ≤ 2 * h → (j ≡ 0) ⊎ (h ≤ m) → value h (j * h + m) ≡ m * 2 ^ j
value_at h j m hp le c =
    ⊎_elim
    (λ (lt : m < h).
    let j0 : j ≡ 0 = ⊎_elim (λ z. z) (λ ge. omega arith) c in
    subst (λ (i : ℕ). value h (i * h + m) ≡ m * 2 ^ i) (sym j0)
    (let e : 0 * h + m ≡ m = omega arith in rw e (value_low h m lt ∙ omega arith)))
    (λ (ge : h ≤ m).
    ⊎_elim
    (λ (lt : m - h < h).
    let e : j * h + m ≡ (j + 1) * h + (m - h) = omega arith in
    let f : h + (m - h) ≡ m = omega arith in
    rw e (value_high h j (m - h) lt ∙ rw f))
    (λ (full : h ≤ m - h).
    let e : j * h + m ≡ ((j + 1) + 1) * h + 0 = omega arith in
    let twice : m ≡ 2 * h = omega arith in
    rw e (value_high h (j + 1) 0 hp ∙ omega (arith, ap (λ (z : ℕ). h * z) (pow_next j), ap (λ (z : ℕ). z * 2 ^ j) twice)))
    (cases_lt (m - h) h))
    (cases_lt m h)

-- every size is a significand at a place
pub record Laid (h n j m : ℕ) : Type 0 where
  pub at : j * h + m ≡ n
  pub short : m < 2 * h
  pub full : (j ≡ 0) ⊎ (h ≤ m)

pub laid : (h n : ℕ) → 0 < h → Laid h n (shift h n) (significand h n)
unfolding significand shift
laid h n hp =
    ⊎_elim
    (λ (lt : n < h). let z : n / h ≡ 0 = div-eq_of_lt lt in simp (lt-ltb n h lt, z) (record { at = omega arith; short = omega arith; full = inl refl }))
    (λ (ge : h ≤ n).
    let q : 1 ≤ n / h = le-div 1 n h hp (omega arith) in
    let r : n % h < h = mod-lt n hp in
    let s : (n / h - 1 + 1) ≡ n / h = omega arith in
    let w : (n / h - 1 + 1) * h ≡ n / h * h = ap (λ (z : ℕ). z * h) s in
    simp (le-ltb n h ge) (record { at = omega (arith, div-add-mod' n h, w); short = omega arith; full = inr (omega arith) }))
    (cases_lt n h)

pub value_step : (h n : ℕ) → 0 < h → value h n < value h (n + 1)
value_step h n hp =
    let l = laid h n hp in
    let j : ℕ = shift h n in
    let m : ℕ = significand h n in
    let a : value h n ≡ m * 2 ^ j = subst (λ (z : ℕ). value h z ≡ m * 2 ^ j) l.at (value_at h j m hp (omega arith) l.full) in
    let e : j * h + (m + 1) ≡ n + 1 = omega (arith, l.at) in
    let c : (j ≡ 0) ⊎ (h ≤ m + 1) = ⊎_elim (λ z. inl z) (λ z. inr (omega arith)) l.full in
    let b : value h (n + 1) ≡ (m + 1) * 2 ^ j = subst (λ (z : ℕ). value h z ≡ (m + 1) * 2 ^ j) e (value_at h j (m + 1) hp (omega (arith, l.short)) c) in
    omega (arith, a, b, pow_pos j)

pub value_rise : (h n k : ℕ) → 0 < h → value h n < value h (n + (k + 1))
value_rise h n zero hp = let e : n + (0 + 1) ≡ n + 1 = omega arith in rw e (value_step h n hp)
value_rise h n (suc k) hp =
    let e : n + (suc k + 1) ≡ (n + (k + 1)) + 1 = omega arith in
    rw e (omega (arith, value_rise h n k hp, value_step h (n + (k + 1)) hp))

pub value_lt : (h n n' : ℕ) → 0 < h → n < n' → value h n < value h n'
value_lt h n n' hp lt =
    let e : n + ((n' - n - 1) + 1) ≡ n' = omega arith in
    subst (λ (z : ℕ). value h n < value h z) e (value_rise h n (n' - n - 1) hp)

pub value_le : (h n n' : ℕ) → 0 < h → n ≤ n' → value h n ≤ value h n'
value_le h n n' hp le =
    ⊎_elim (λ (lt : n < n'). omega (arith, value_lt h n n' hp lt)) (λ (ge : n' ≤ n). let e : n ≡ n' = omega arith in subst (λ (z : ℕ). value h n ≤ value h z) e (omega arith))
    (cases_lt n n')

-- and back: the order of values is the order of sizes
pub size_lt : (h n n' : ℕ) → 0 < h → value h n < value h n' → n < n'
size_lt h n n' hp lt = ⊎_elim (λ (z : n < n'). z) (λ (ge : n' ≤ n). omega (arith, value_le h n' n hp ge)) (cases_lt n n')

-- a significand and a place in order are the size's own
pub laid_only : (h n j m : ℕ) → 0 < h → Laid h n j m → (j ≡ shift h n) × (m ≡ significand h n)
unfolding significand shift
laid_only h n j m hp l =
    ⊎_elim
    (λ (lt : m < h).
    let j0 : j ≡ 0 = ⊎_elim (λ z. z) (λ ge. omega arith) l.full in
    let n0 : m ≡ n = subst (λ (i : ℕ). i * h + m ≡ n → m ≡ n) (sym j0) (λ e. omega (arith, e)) l.at in
    let nh : n < h = omega arith in
    simp (lt-ltb n h nh, div-eq_of_lt nh) (omega arith, n0))
    (λ (ge : h ≤ m).
    let t : m - h < h = omega (arith, l.short) in
    let e : (j + 1) * h + (m - h) ≡ n = omega (arith, l.at) in
    let d : n / h ≡ j + 1 = subst (λ (z : ℕ). z / h ≡ j + 1) e (div-mul-add (j + 1) h (m - h) t) in
    let r : n % h ≡ m - h = subst (λ (z : ℕ). z % h ≡ m - h) e (mod-mul-add (j + 1) h (m - h) t) in
    let nh : h ≤ n = omega arith in
    simp (le-ltb n h nh, d, r) (omega arith, omega arith))
    (cases_lt m h)
