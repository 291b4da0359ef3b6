-- Reading round a ring: what one write, one cell more at the end and one less at the front do to what stands.
use Rattle.std.proofs.Common.{◌≡◌, ℕ, zero, suc, ◌+◌, ◌-◌, ◌%◌, ◌<◌, ◌≢◌, List, [], ◌∷◌, ◌++◌, length, get_or, drop, set, refl, ap, ◌∙◌, Some, None, arith}
use Rattle.std.proofs.lemmas.List.{get_or-set_same, get_or-set_other}
use Rattle.std.specs.List.{slice_get}
use Rattle.rounding.specs.declared.encoding.Encoding.{Encoding}
use Rattle.window.specs.Ring.{blank, ringed}

module _ (cells : List Encoding) where
  -- starts that are equal round the ring
  pub ringed_same : (a b n : ℕ) → a % 288 ≡ b % 288 → ringed cells a n ≡ ringed cells b n
  unfolding ringed
  ringed_same a b zero e = refl
  ringed_same a b (suc n) e =
      let next = ringed_same (a + 1) (b + 1) n (omega arith) in
      ap (λ (k : ℕ). get_or cells k blank ∷ ringed cells (a + 1) n) e ∙ ap (λ (xs : List Encoding). get_or cells (b % 288) blank ∷ xs) next

  pub ringed_length : (from n : ℕ) → length (ringed cells from n) ≡ n
  unfolding ringed
  ringed_length from zero = refl
  ringed_length from (suc n) = ap suc (ringed_length (from + 1) n)

  pub ringed_at : (from n i : ℕ) → i < n → get_or (ringed cells from n) i blank ≡ get_or cells ((from + i) % 288) blank
  unfolding ringed
  ringed_at from zero i h = absurd (omega arith)
  ringed_at from (suc n) zero h = ap (λ (k : ℕ). get_or cells (k % 288) blank) (omega arith)
  ringed_at from (suc n) (suc i) h =
      ringed_at (from + 1) n i (omega arith) ∙ ap (λ (k : ℕ). get_or cells (k % 288) blank) (omega arith)

  pub ringed_push : (from n : ℕ) → ringed cells from (n + 1) ≡ ringed cells from n ++ get_or cells ((from + n) % 288) blank ∷ []
  unfolding ringed
  ringed_push from zero = ap (λ (k : ℕ). get_or cells (k % 288) blank ∷ []) (omega arith)
  ringed_push from (suc n) =
      let e : suc n + 1 ≡ suc (n + 1) = omega arith in
      let k : from + 1 + n ≡ from + suc n = omega arith in
      rw e (ap (λ (xs : List Encoding). get_or cells (from % 288) blank ∷ xs) (rw k at (ringed_push (from + 1) n)))

  -- a write outside the cells that are read
  pub ringed_set : (from n p : ℕ) (e : Encoding) → ((i : ℕ) → i < n → (from + i) % 288 ≢ p) → ringed (set cells p e) from n ≡ ringed cells from n
  unfolding ringed
  ringed_set from zero p e apart = refl
  ringed_set from (suc n) p e apart =
      let ne : from % 288 ≢ p = λ z. apart 0 (omega arith) (omega arith) in
      let rest = ringed_set (from + 1) n p e (λ i h z. apart (i + 1) (omega arith) (omega arith)) in
      rw (get_or-set_other cells p (from % 288) e blank ne, rest)

-- a reply written behind the last one
pub ringed_newest : (cells : List Encoding) (start count : ℕ) (e : Encoding) → length cells ≡ 288 → count < 288 → ringed (set cells ((start + count) % 288) e) start (count + 1) ≡ ringed cells start count ++ e ∷ []
ringed_newest cells start count e full room =
    let p : ℕ = (start + count) % 288 in
    let within : p < length cells = omega arith in
    let kept = ringed_set cells start count p e (λ i h z. omega arith) in
    ringed_push (set cells p e) start count ∙ rw (kept, get_or-set_same cells p e blank within)

-- the oldest one left out
pub ringed_older : (cells : List Encoding) (start count : ℕ) → 0 < count → ringed cells ((start + 1) % 288) (count - 1) ≡ drop 1 (ringed cells start count)
unfolding ringed
ringed_older cells start zero h = absurd (omega arith)
ringed_older cells start (suc n) h =
    let e : suc n - 1 ≡ n = omega arith in
    rw e (ringed_same cells ((start + 1) % 288) (start + 1) n (omega arith))

-- the newest one apart
pub ringed_last : (cells : List Encoding) (start count n : ℕ) → count ≡ n + 1 → ringed cells start count ≡ ringed cells start n ++ get_or (ringed cells start count) n blank ∷ []
ringed_last cells start count n e =
    let last : get_or (ringed cells start count) n blank ≡ get_or cells ((start + n) % 288) blank = ringed_at cells start count n (omega arith) in
    ap (ringed cells start) e ∙ ringed_push cells start n ∙ rw last

pub ringed_none : (cells : List Encoding) (start count : ℕ) → count ≡ 0 → ringed cells start count ≡ []
unfolding ringed
ringed_none cells start count e = rw e

-- what a read says of the list
pub none_stands : (xs : List Encoding) → slice_get xs 0 ≡ None → xs ≡ []
none_stands [] h = refl
none_stands (x ∷ xs) h = cc

pub nth_stands : (xs : List Encoding) (k : ℕ) (e : Encoding) → slice_get xs k ≡ Some e → (k < length xs) × (get_or xs k blank ≡ e)
nth_stands [] k e h = let z : ◌≡◌ {A = ℕ} 0 1 = cc in absurd (omega arith)
nth_stands (x ∷ xs) zero e h = (omega arith, cc)
nth_stands (x ∷ xs) (suc k) e h = let r = nth_stands xs k e h in (omega (arith, r.0), r.1)

pub first_stands : (xs : List Encoding) (e : Encoding) → slice_get xs 0 ≡ Some e → xs ≡ e ∷ drop 1 xs
first_stands [] e h = cc
first_stands (x ∷ xs) e h = cc
