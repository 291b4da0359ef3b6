-- Lemmas on the digits of a number.
use Rattle.std.proofs.Common.{◌≡◌, ℕ, zero, suc, ◌+◌, ◌*◌, ◌/◌, ◌%◌, ◌^◌, ◌<◌, ◌≤◌, List, [], ◌∷◌, ◌++◌, length, get_or, take, sym, refl, ap, ◌∙◌, ⊎_elim, mul-le-mul_right, mod-lt, pow-suc, div-add-mod', add-one, arith}
use native.Mathlib.Nat.{pow-le-pow_left, pow-le-pow_right, pow-zero}
use lib.Arith.{digits_div, digits_mod}
use Rattle.lex.specs.Numbers.{digit, digits}
use Rattle.lex.specs.Parts.{Solid}
use Rattle.std.proofs.lemmas.Nat.{div_below}
use Rattle.std.proofs.lemmas.List.{get_or_append_left, get_or_at, length_push, same_from_push, take_more}
use Rattle.std.proofs.lemmas.Bool.{cases_lt}
use Rattle.std.proofs.lemmas.Bool.Decides.{nat_tests}

-- one more digit at the end
pub digits_push : (base k v d : ℕ) → d < base → digits base (k + 1) (v * base + d) ≡ digits base k v ++ (digit d ∷ [])
unfolding digits
digits_push base k v d h = rw (add-one, digits_div v h, digits_mod v h)

pub length_digits : (base k n : ℕ) → length (digits base k n) ≡ k
unfolding digits
length_digits base zero n = refl
length_digits base (suc k) n = length_push (digits base k (n / base)) _ ∙ ap (λ (m : ℕ). m + 1) (length_digits base k (n / base)) ∙ add-one k

-- each byte of the digits is a digit
pub digit_at : (base k n i : ℕ) → 0 < base → i < k → (d : ℕ) × (d < base) × (get_or (digits base k n) i 0 ≡ digit d)
unfolding digits
digit_at base zero n i pos l = absurd (omega arith)
digit_at base (suc k) n i pos l =
    ⊎_elim
    (λ (b : i < k).
    let h = digit_at base k (n / base) i pos b in
    (h.0, h.1, get_or_append_left (digits base k (n / base)) _ 0 i (omega (arith, length_digits base k (n / base))) ∙ h.2))
    (λ (b : k ≤ i).
    (n % base, mod-lt n pos, get_or_at (digits base k (n / base)) (digit (n % base)) [] 0 i (omega (arith, length_digits base k (n / base)))))
    (cases_lt i k)

-- the bounds of a number of k digits
pub pow_next : (base k : ℕ) → base ^ (k + 1) ≡ base ^ k * base
pow_next base k = rw add-one (pow-suc base k)

pub value_push : (base k v d : ℕ) → v < base ^ k → d < base → v * base + d < base ^ (k + 1)
value_push base k v d h l = rw (pow_next base k) (omega (arith, mul-le-mul_right base h))

pub eight_digits : (base k : ℕ) → base ≤ 16 → k ≤ 8 → base ^ k ≤ 2 ^ 32
eight_digits base k b l =
    let p : base ^ k ≤ 16 ^ k = pow-le-pow_left b k in
    let z : 0 < 16 = omega arith in
    let q : 16 ^ k ≤ 16 ^ 8 = pow-le-pow_right z l in
    omega arith

-- one more byte of a word read
pub word_push : (base i v d : ℕ) (w : List ℕ) → i < length w → d < base → get_or w i 0 ≡ digit d → take i w ≡ digits base i v → take (i + 1) w ≡ digits base (i + 1) (v * base + d)
word_push base i v d w l b e t = rw (take_more w i 0 l, t, e) (sym (digits_push base i v d b))

no_space : (d : ℕ) → digit d ≡ 32 → ⊥
no_space d e = grind (arith, nat_tests)

-- digits hold no space
pub solid_digits : (base k n : ℕ) → 0 < base → Solid (digits base k n)
solid_digits base k n pos i l e =
    let d = digit_at base k n i pos (omega (arith, length_digits base k n)) in no_space d.0 (sym d.2 ∙ e)

digit_same : (d e : ℕ) → digit d ≡ digit e → d ≡ e
digit_same d e h = grind (arith, nat_tests)

-- numbers of the same digits are equal
pub digits_same : (base k m n : ℕ) → 0 < base → m < base ^ k → n < base ^ k → digits base k m ≡ digits base k n → m ≡ n
unfolding digits
digits_same base zero m n pos h g e = omega (arith, rw pow-zero at h, rw pow-zero at g)
digits_same base (suc k) m n pos h g e =
    let p = same_from_push (digits base k (m / base)) (digits base k (n / base)) (digit (m % base)) (digit (n % base)) e in
    let q : m / base ≡ n / base =
    digits_same base k (m / base) (n / base) pos (div_below m base (base ^ k) pos (rw pow-suc at h)) (div_below n base (base ^ k) pos (rw pow-suc at g)) p.0
    in
    let r : m % base ≡ n % base = digit_same (m % base) (n % base) p.1 in
    sym (div-add-mod' m base) ∙ cc (q, r) ∙ div-add-mod' n base
