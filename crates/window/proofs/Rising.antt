-- A greater size has a greater value, so encodings are ordered as their ranks.
use Rattle.std.proofs.Common.{◌≡◌, ℕ, ◌+◌, ◌-◌, ◌<◌, ◌≤◌, Bool, true, false, cond, ltb, ℤ, pos, neg_ℤ, refl, ◌∙◌, ⊎_elim, arith, lit<}
use lib.Signed.{lt_z}
use borrow.Author.Differences.{up, down, ints, true_is_lt, false_is_lt}
use Rattle.std.proofs.lemmas.Bool.{cases_lt, lt-ltb, le-ltb}
use Rattle.rounding.specs.declared.encoding.Encoding.{Encoding}
use Rattle.rounding.specs.Format.{binary32, negative, size, significand, shift, value}
use Rattle.rounding.proofs.Values.{value_lt as lesser-value, value_le as lesser-or-equal-value}
use Rattle.window.specs.Replies.{worth_of, rank}

value_none : value 8388608 0 ≡ 0
unfolding value significand shift
value_none = refl

pub value_lt : (n m : ℕ) → n < m → value 8388608 n < value 8388608 m
value_lt n m lt = lesser-value 8388608 n m (lit< tt) lt

pub value_le : (n m : ℕ) → n ≤ m → value 8388608 n ≤ value 8388608 m
value_le n m le = lesser-or-equal-value 8388608 n m (lit< tt) le

-- two tests that agree
agree : (a b : ℕ) (x y : ℤ) → (a < b → up x + down y < up y + down x) → (b ≤ a → up y + down x ≤ up x + down y) → ltb a b ≡ lt_z x y
agree a b x y less more =
    ⊎_elim
    (λ (h : a < b). lt-ltb a b h ∙ true_is_lt x y (less h))
    (λ (h : b ≤ a). le-ltb a b h ∙ false_is_lt x y (more h))
    (cases_lt a b)

-- the order of two numbers with signs, for a rising f that is 0 at 0
module _ (f : ℕ → ℕ) (none : f 0 ≡ 0) (rises : (m n : ℕ) → m < n → f m < f n) (keeps : (m n : ℕ) → m ≤ n → f m ≤ f n) where
  signs : (b d : Bool) (m n : ℕ) → m < 2147483648 → n < 2147483648 → ltb (cond b (2147483648 - m) (2147483648 + m)) (cond d (2147483648 - n) (2147483648 + n)) ≡ lt_z (cond b (neg_ℤ (pos (f m))) (pos (f m))) (cond d (neg_ℤ (pos (f n))) (pos (f n)))
  signs false false m n p q =
      agree (2147483648 + m) (2147483648 + n) (pos (f m)) (pos (f n)) (λ h. omega (arith, rises m n (omega arith))) (λ h. omega (arith, keeps n m (omega arith)))
  signs true true m n p q =
      agree (2147483648 - m) (2147483648 - n) (neg_ℤ (pos (f m))) (neg_ℤ (pos (f n))) (λ h. omega (arith, ints, rises n m (omega arith)))
      (λ h. omega (arith, ints, keeps m n (omega arith)))
  signs true false m n p q =
      agree (2147483648 - m) (2147483648 + n) (neg_ℤ (pos (f m))) (pos (f n))
      (λ h. ⊎_elim (λ (z : 0 < m). omega (arith, ints, none, rises 0 m z)) (λ (z : m ≤ 0). omega (arith, ints, none, rises 0 n (omega arith))) (cases_lt 0 m))
      (λ h. omega (arith, ints, none, keeps m 0 (omega arith), keeps n 0 (omega arith)))
  signs false true m n p q =
      agree (2147483648 + m) (2147483648 - n) (pos (f m)) (neg_ℤ (pos (f n))) (λ h. omega arith) (λ h. omega (arith, ints))

pub ranks_order : (x y : Encoding) → ltb (rank x) (rank y) ≡ lt_z (worth_of x) (worth_of y)
unfolding rank worth_of
ranks_order x y =
    signs (value 8388608) value_none value_lt value_le (negative binary32 x.bits) (negative binary32 y.bits) (size binary32 x.bits) (size binary32 y.bits) (omega arith) (omega arith)
