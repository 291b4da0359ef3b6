-- Decimals without leading zeros are the digits of their number.
use Rattle.std.proofs.Common.{◌≡◌, ℕ, zero, suc, ◌+◌, ◌-◌, ◌*◌, ◌/◌, ◌%◌, ◌^◌, ◌<◌, ◌≤◌, List, [], ◌∷◌, ◌++◌, length, get_or, decimal, sym, ap, ◌∙◌, subst, ⊎_elim, mod-eq_of_lt, pow-suc, add-one, arith}
use native.Mathlib.Nat.{one-le-pow, pow-le-pow_right}
use Rattle.lex.proofs.Places.{digits_push, length_digits, pow_next, solid_digits}
use Rattle.lex.specs.Numbers.{Unpadded, digit, digits}
use Rattle.lex.specs.Parts.{Solid}
use Rattle.std.proofs.lemmas.Fmt.{decimal_by_steps, decimal_digit, decimal_nonempty, decimal_step, first_decimal, length-decimal-le}
use Rattle.std.proofs.lemmas.List.{get_or_append_left, length_push}
use Rattle.std.proofs.lemmas.Bool.{cases_lt, cond-true, lt-ltb}

digit_small : (d : ℕ) → d < 10 → digit d ≡ 48 + d
digit_small d h = cond-true _ (48 + d) (55 + d) (lt-ltb d 10 h)

-- a number from its quotient and rest
parts : (n : ℕ) → n ≡ n / 10 * 10 + n % 10
parts n = omega arith

-- one more digit at the end of a number
last_digit : (k n : ℕ) → digits 10 (k + 1) n ≡ digits 10 k (n / 10) ++ ((48 + n % 10) ∷ [])
last_digit k n =
    ap (λ (m : ℕ). digits 10 (k + 1) m) (parts n)
    ∙ digits_push 10 k (n / 10) (n % 10) (omega arith)
    ∙ ap (λ (b : ℕ). digits 10 k (n / 10) ++ (b ∷ [])) (digit_small (n % 10) (omega arith))

one_digit : (n : ℕ) → n < 10 → digits 10 1 n ≡ (48 + n) ∷ []
unfolding digits
one_digit n h = last_digit 0 n ∙ ap (λ (d : ℕ). (48 + d) ∷ []) (mod-eq_of_lt h)

-- the digits of a decimal are those of its number
pub decimal_is : (n : ℕ) → n < 2 ^ 64 → (decimal n ≡ digits 10 (length (decimal n)) n) × (n < 10 ^ length (decimal n))
decimal_is =
    decimal_by_steps
    (λ n ds. (ds ≡ digits 10 (length ds) n) × (n < 10 ^ length ds))
    (λ n h. (sym (one_digit n h), h))
    (λ n ds ten h. (
      rw (length_push ds (48 + n % 10)) (ap (λ (s : List ℕ). s ++ ((48 + n % 10) ∷ [])) h.0 ∙ sym (last_digit (length ds) n)),
      rw (length_push ds (48 + n % 10), pow_next 10 (length ds)) (omega (arith, h.1)),
    ))

-- k + 1 digits of a number that has no fewer
pub decimal_digits : (k n : ℕ) → n < 10 ^ (k + 1) → (0 < k → 10 ^ k ≤ n) → n < 2 ^ 64 → decimal n ≡ digits 10 (k + 1) n
decimal_digits zero n h top fits = decimal_digit n h ∙ sym (one_digit n h)
decimal_digits (suc k) n h top fits =
    let big : 10 ^ suc k ≤ n = top (omega arith) in
    let some : 0 < 10 ^ k = one-le-pow k 10 (omega arith) in
    let ten : 10 ≤ n = omega (arith, pow-suc 10 k) in
    let under : n / 10 < 10 ^ (k + 1) = omega (arith, pow_next 10 (k + 1), ap (λ (j : ℕ). 10 ^ (j + 1)) (add-one k)) in
    let over : 10 ^ k ≤ n / 10 = omega (arith, pow-suc 10 k) in
    decimal_step n ten fits
    ∙ ap (λ (s : List ℕ). s ++ ((48 + n % 10) ∷ [])) (
    decimal_digits k (n / 10) under (λ _. over) (omega arith) ∙ ap (λ (j : ℕ). digits 10 j (n / 10)) (add-one k)
    )
    ∙ sym (last_digit (suc k) n)

-- a number that needs fewer digits begins with 0
first_zero : (k n : ℕ) → n < 10 ^ k → get_or (digits 10 (k + 1) n) 0 0 ≡ 48
first_zero zero n h = ap (λ (s : List ℕ). get_or s 0 0) (one_digit n (omega arith)) ∙ omega arith
first_zero (suc k) n h =
    let under : n / 10 < 10 ^ k = omega (arith, pow-suc 10 k) in
    ap (λ (s : List ℕ). get_or s 0 0) (last_digit (suc k) n)
    ∙ get_or_append_left (digits 10 (suc k) (n / 10)) _ 0 0 (omega (arith, length_digits 10 (suc k) (n / 10)))
    ∙ ap (λ (j : ℕ). get_or (digits 10 j (n / 10)) 0 0) (sym (add-one k))
    ∙ first_zero k (n / 10) under

pub unpadded_decimal : (n : ℕ) → n < 2 ^ 64 → Unpadded (decimal n)
unpadded_decimal n fits = (
  decimal_nonempty n fits,
  λ e.
      ⊎_elim
      (λ (small : n < 10). ap length (decimal_digit n small))
      (λ (big : 10 ≤ n). absurd (omega (arith, first_decimal n (omega arith) fits)))
      (cases_lt n 10),
)

-- what the word of a number below a thousand is like
pub record Word (w : List ℕ) (n : ℕ) : Type 0 where
  pub short : length w ≤ 3
  pub bare : Unpadded w
  pub spelt : w ≡ digits 10 (length w) n
  pub below : n < 10 ^ length w

pub word_of : (w : List ℕ) (n : ℕ) → n < 1000 → w ≡ decimal n → Word w n
word_of w n h e =
    let fits : n < 2 ^ 64 = omega arith in
    let d = decimal_is n fits in
    subst (λ (t : List ℕ). Word t n) (sym e) (
    record { short = length-decimal-le 3 n (omega arith) h fits; bare = unpadded_decimal n fits; spelt = d.0; below = d.1 }
    )

-- unpadded digits are the decimal of their number
of_length : (k n : ℕ) (w : List ℕ) → length w ≡ k + 1 → Unpadded w → w ≡ digits 10 (k + 1) n → n < 10 ^ (k + 1) → n < 2 ^ 64 → w ≡ decimal n
of_length k n w l bare e h fits = e ∙ sym (decimal_digits k n h (λ some. top some) fits)
  where
    -- fewer digits would begin with 0, and that only where it is alone
    top : 0 < k → 10 ^ k ≤ n
    top some =
        ⊎_elim
        (λ (less : n < 10 ^ k). absurd (omega (arith, bare.1 (ap (λ (t : List ℕ). get_or t 0 0) e ∙ first_zero k n less))))
        (λ (more : 10 ^ k ≤ n). more)
        (cases_lt n (10 ^ k))

pub decimal_of : (w : List ℕ) (n : ℕ) → length w ≤ 3 → Unpadded w → w ≡ digits 10 (length w) n → n < 10 ^ length w → (n < 1000) × (w ≡ decimal n)
decimal_of w n short bare e h =
    let k : length w ≡ (length w - 1) + 1 = omega (arith, bare.0) in
    let small : n < 1000 = omega (arith, pow-le-pow_right ten short) in (
      small,
      of_length (length w - 1) n w k bare (e ∙ ap (λ (j : ℕ). digits 10 j n) k) (subst (λ (j : ℕ). n < 10 ^ j) k h) (omega arith),
    )
  where
    ten : 0 < 10
    ten = omega arith

-- a decimal holds no space
pub solid_decimal : (n : ℕ) → n < 2 ^ 64 → Solid (decimal n)
solid_decimal n fits =
    subst Solid (sym (decimal_is n fits).0) (solid_digits 10 (length (decimal n)) n (omega arith))
