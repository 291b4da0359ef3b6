-- Words at rising places: bounds, words past the last, sums of two.
use Rattle.std.proofs.Common.{◌≡◌, ℕ, zero, suc, ◌+◌, ◌-◌, ◌*◌, ◌/◌, ◌^◌, ◌<◌, ◌≤◌, false, cond, eqb, ◌≢◌, List, [], ◌∷◌, ℤ, length, get_or, IfSome, refl, ap, ◌∙◌, subst, lt_of_le_of_lt, ⊎_elim, mul-le-mul_right, mul-le-mul_left, arith, lit<}
use native.Mathlib.Nat.{pow-le-pow_right}
use Rattle.std.proofs.lemmas.Nat.{pow_pos, pow-add}
use Rattle.std.proofs.lemmas.Bool.{cases_eq, eq-eqb, ne_eqb}
use borrow.Author.Differences.{down}
use Rattle.std.specs.List.{slice_get}
use Rattle.places.specs.Spread.{spread, ups, downs, raised, taken}
use Rattle.places.proofs.Binary.{pow_next}

-- the word of field m + 1
pub spread_more : (step : ℕ) (w : ℕ → ℕ) (m : ℕ) → spread step w (m + 1 + 1) ≡ spread step w (m + 1) + w (m + 1) * 2 ^ (step * m)
unfolding spread
spread_more step w m =
    let e : m + 1 + 1 ≡ suc (m + 1) = omega arith in
    let d : m + 1 - 1 ≡ m = omega arith in
    rw (e, spread) (rw d refl)

pub spread_one : (step : ℕ) (w : ℕ → ℕ) → spread step w 1 ≡ w 0
unfolding spread
spread_one step w =
    let e : step * (0 - 1) ≡ 0 = omega arith in
    rw e (omega arith)

-- words past the last one are 0 and add nothing
pub spread_past : (step : ℕ) (w : ℕ → ℕ) (n : ℕ) → ((k : ℕ) → n ≤ k → w k ≡ 0) → (m : ℕ) → spread step w (n + m) ≡ spread step w n
unfolding spread
spread_past step w n none zero = let e : n + 0 ≡ n = omega arith in rw e refl
spread_past step w n none (suc m) =
    let e : n + suc m ≡ suc (n + m) = omega arith in
    let z : w (n + m) ≡ 0 = none (n + m) (omega arith) in
    rw (e, spread) (rw z (omega (arith, spread_past step w n none m)))

-- words of at most b
pub spread_small : (step : ℕ) (w : ℕ → ℕ) (b : ℕ) → 0 < step → (m : ℕ) → ((k : ℕ) → k < m + 1 + 1 → w k ≤ b) → spread step w (m + 1 + 1) ≤ b * 2 ^ (step * m + 1)
spread_small step w b some zero each =
    let e : step * 0 + 1 ≡ 1 = omega arith in
    let f : step * 0 ≡ 0 = omega arith in
    rw e (omega (arith, rw f at (spread_more step w 0), spread_one step w, each 0 (omega arith), each 1 (omega arith)))
spread_small step w b some (suc m) each =
    let p : ℕ = 2 ^ (step * suc m) in
    let up : step * m + 1 ≤ step * suc m = omega arith in
    let q : 2 ^ (step * m + 1) ≤ p = pow-le-pow_right (omega arith) up in
    let y : suc m ≡ m + 1 = omega arith in
    let more : spread step w (suc m + 1 + 1) ≡ spread step w (suc m + 1) + w (suc m + 1) * p = spread_more step w (suc m) in
    let rec : spread step w (suc m + 1) ≤ b * 2 ^ (step * m + 1) = rw y (spread_small step w b some m (λ k lt. each k (omega arith))) in
    omega (arith, more, rec, mul-le-mul_left b q, mul-le-mul_right p (each (suc m + 1) (omega arith)), ap (λ (x : ℕ). b * x) (pow_next (step * suc m)))

-- words that differ by b
pub spread_raised : (step : ℕ) (r d u : ℕ → ℕ) (b n : ℕ) → ((k : ℕ) → k < n → r k + d k ≡ u k + b) → spread step r n + spread step d n ≡ spread step u n + b * spread step (λ _. 1) n
unfolding spread
spread_raised step r d u b zero each = omega arith
spread_raised step r d u b (suc n) each =
    let p : ℕ = 2 ^ (step * (n - 1)) in
    omega (arith, spread_raised step r d u b n (λ k lt. each k (omega arith)), ap (λ (x : ℕ). x * p) (each n (omega arith)))

pub spread_ones : (m : ℕ) → spread 1 (λ _. 1) (m + 1) ≡ 2 ^ m
spread_ones zero = spread_one 1 (λ _. 1)
spread_ones (suc m) =
    let y : suc m ≡ m + 1 = omega arith in
    let e : 1 * m ≡ m = omega arith in
    rw y (omega (arith, rw e at (spread_more 1 (λ _. 1) m), spread_ones m, pow_next m))

-- the sum of words of 64 bits that are raised by 2^63
pub spread_lifted : (r d u : ℕ → ℕ) → ((k : ℕ) → k < 255 → r k + d k ≡ u k + 2 ^ 63) → ((k : ℕ) → k < 255 → r k < 2 ^ 64) → (spread 1 r 255 + spread 1 d 255 ≡ spread 1 u 255 + 2 ^ 317) × (spread 1 r 255 < 2 ^ 318)
spread_lifted r d u each few = (
  spread_raised 1 r d u (2 ^ 63) 255 each ∙ ap (λ (n : ℕ). spread 1 u 255 + 2 ^ 63 * n) (spread_ones 254),
  lt_of_le_of_lt (spread_small 1 r 18446744073709551615 (omega arith) 253 (λ k lt. omega (arith, few k (omega arith)))) (lit< tt),
)

-- words as they are taken: none past the last one, plain ones as they are, and signed ones raised
pub taken_past : {A : Type 0} (worth : A → ℕ) (ws : List A) (k : ℕ) → length ws ≤ k → taken worth ws k ≡ 0
taken_past worth [] k past = refl
taken_past worth (w ∷ ws) zero past = absurd (omega arith)
taken_past worth (w ∷ ws) (suc k) past = taken_past worth ws k (omega arith)

pub taken_plain : (ws : List ℕ) (k : ℕ) → taken (λ w. w) ws k ≡ get_or ws k 0
taken_plain [] k = refl
taken_plain (w ∷ ws) zero = refl
taken_plain (w ∷ ws) (suc k) = taken_plain ws k

pub taken_raised : (ws : List ℤ) (k : ℕ) → k < length ws → IfSome (slice_get ws k) (λ w. down w ≤ 2 ^ 63) → taken raised ws k + downs ws k ≡ ups ws k + 2 ^ 63
taken_raised [] k within fair = absurd (omega arith)
taken_raised (w ∷ ws) zero within fair = omega (arith, fair)
taken_raised (w ∷ ws) (suc k) within fair = taken_raised ws k (omega arith) fair

-- where the words rise by 1 or 2 places, the last place is reached past the last word, with room for what is carried
pub last_place : (step field : ℕ) → 0 < step → step ≤ 2 → field ≡ 254 + 64 / step → (step * field ≡ step * 254 + 64) × (255 ≤ field)
last_place step field some few e =
    ⊎_elim
    (λ (one : step ≡ 1). let f : field ≡ 254 + 64 / 1 = e ∙ ap (λ (n : ℕ). 254 + 64 / n) one in omega (arith, f, ap (λ (n : ℕ). n * field) one, one))
    (λ (ne : step ≢ 1).
    let two : step ≡ 2 = omega arith in
    let f : field ≡ 254 + 64 / 2 = e ∙ ap (λ (n : ℕ). 254 + 64 / n) two in omega (arith, f, ap (λ (n : ℕ). n * field) two, two))
    (cases_eq step 1)

pub place_within : (step field : ℕ) → 0 < step → step ≤ 2 → field < 254 + 64 / step → step * field + step ≤ 576
place_within step field some few lt =
    ⊎_elim
    (λ (one : step ≡ 1). let h : field < 254 + 64 / 1 = subst (λ (n : ℕ). field < 254 + 64 / n) one lt in omega (arith, h, ap (λ (n : ℕ). n * field) one))
    (λ (ne : step ≢ 1).
    let two : step ≡ 2 = omega arith in
    let h : field < 254 + 64 / 2 = subst (λ (n : ℕ). field < 254 + 64 / n) two lt in omega (arith, h, ap (λ (n : ℕ). n * field) two))
    (cases_eq step 1)

-- words of 64 bits
pub spread_fits : (step : ℕ) (w : ℕ → ℕ) → 0 < step → ((k : ℕ) → k < 255 → w k < 2 ^ 64) → spread step w 255 < 2 ^ (step * 254 + 64)
spread_fits step w some each =
    let top : step * 253 + 1 + 64 ≤ step * 254 + 64 = omega arith in
    let p : 2 ^ (step * 253 + 1 + 64) ≤ 2 ^ (step * 254 + 64) = pow-le-pow_right (omega arith) top in
    let q = spread_small step w 18446744073709551615 some 253 (λ k lt. omega (arith, each k (omega arith))) in
    omega (arith, q, p, pow-add 2 (step * 253 + 1) 64, pow_pos (step * 253 + 1))

-- ---- sums of spreads
module _ (step : ℕ) where
  pub spread_same : (v w : ℕ → ℕ) (n : ℕ) → ((k : ℕ) → k < n → v k ≡ w k) → spread step v n ≡ spread step w n
  unfolding spread
  spread_same v w zero e = refl
  spread_same v w (suc n) e =
      omega (arith, spread_same v w n (λ k lt. e k (omega arith)), ap (λ (x : ℕ). x * 2 ^ (step * (n - 1))) (e n (omega arith)))

  pub spread_sum : (v w : ℕ → ℕ) (n : ℕ) → spread step (λ k. v k + w k) n ≡ spread step v n + spread step w n
  unfolding spread
  spread_sum v w zero = refl
  spread_sum v w (suc n) = omega (arith, spread_sum v w n)

  pub spread_none : (w : ℕ → ℕ) (n : ℕ) → ((k : ℕ) → k < n → w k ≡ 0) → spread step w n ≡ 0
  unfolding spread
  spread_none w zero e = refl
  spread_none w (suc n) e =
      omega (arith, spread_none w n (λ k lt. e k (omega arith)), ap (λ (x : ℕ). x * 2 ^ (step * (n - 1))) (e n (omega arith)))

  -- one word, and nothing at the others
  pub spread_single : (f v n : ℕ) → f < n → spread step (λ k. cond (eqb f k) v 0) n ≡ v * 2 ^ (step * (f - 1))
  unfolding spread
  spread_single f v zero lt = absurd (omega arith)
  spread_single f v (suc n) lt =
      ⊎_elim
      (λ (e : f ≡ n).
      let one : cond (eqb f n) v 0 ≡ v = rw (eq-eqb f n e) refl in
      let none : spread step (λ k. cond (eqb f k) v 0) n ≡ 0 = spread_none (λ k. cond (eqb f k) v 0) n (λ k below. let ne : eqb f k ≡ false = ne_eqb f k (λ z. omega arith) in rw ne refl) in
      omega (arith, none, ap (λ (x : ℕ). x * 2 ^ (step * (n - 1))) one, ap (λ (i : ℕ). v * 2 ^ (step * (i - 1))) e))
      (λ (ne : f ≡ n → ⊥).
      let zip : cond (eqb f n) v 0 ≡ 0 = rw (ne_eqb f n ne) refl in
      omega (arith, spread_single f v n (omega arith), ap (λ (x : ℕ). x * 2 ^ (step * (n - 1))) zip))
      (cases_eq f n)
