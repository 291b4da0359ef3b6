-- A window's invariant, kept when a reply comes or goes.
use Rattle.std.proofs.Common.{◌≡◌, ℕ, ◌+◌, ◌*◌, ◌^◌, ◌<◌, ◌≤◌, true, false, cond, eqb, List, [], ◌∷◌, ◌++◌, length, get_or, ℤ, pos, ◌+ℤ◌, sum_by, sym, refl, subst, ⊎_elim, arith}
use borrow.Author.Differences.{up, down, ints}
use Rattle.std.proofs.lemmas.Bool.{cases_lt, cases_order}
use Rattle.std.proofs.lemmas.List.{get_or_append_left, get_or_push, get_or_past, length_push}
use Rattle.std.proofs.lemmas.List.Sums.{sum_by-cons, sum_by_push}
use Rattle.rounding.specs.declared.encoding.Encoding.{Encoding}
use Rattle.window.specs.declared.words.Words.{Words}
use Rattle.window.specs.Replies.{Finite, field_of, signed_of, square_of, sum_z}
use Rattle.window.specs.Ring.{blank}
use Rattle.window.specs.Words.{signed_at, square_at, Tells, Joins, Roomy}
use Rattle.window.proofs.Adding.{signed_small, square_small}

pub sum_z_push : (f : Encoding → ℤ) (xs : List Encoding) (y : Encoding) → sum_z f (xs ++ y ∷ []) ≡ sum_z f xs +ℤ f y
unfolding sum_z
sum_z_push f [] y = omega (arith, ints)
sum_z_push f (x ∷ xs) y = omega (arith, ints, sum_z_push f xs y)

pub sum_z_small : (f : Encoding → ℤ) (b : ℕ) → ((x : Encoding) → (up (f x) ≤ b) × (down (f x) ≤ b)) → (xs : List Encoding) → (up (sum_z f xs) ≤ down (sum_z f xs) + length xs * b) × (down (sum_z f xs) ≤ up (sum_z f xs) + length xs * b)
unfolding sum_z
sum_z_small f b each [] = omega arith
sum_z_small f b each (x ∷ xs) = omega (arith, ints, each x, sum_z_small f b each xs)

pub sum_by_small : (f : Encoding → ℕ) (b : ℕ) → ((x : Encoding) → f x ≤ b) → (xs : List Encoding) → sum_by f xs ≤ length xs * b
sum_by_small f b each [] = omega arith
sum_by_small f b each (x ∷ xs) = omega (arith, each x, sum_by_small f b each xs, sum_by-cons f x xs)

signed_at_small : (k : ℕ) (e : Encoding) → (up (signed_at k e) ≤ 2 ^ 24) × (down (signed_at k e) ≤ 2 ^ 24)
signed_at_small k e =
    elim (eqb (field_of e) k) as (λ b. (up (cond b (signed_of e) (pos 0)) ≤ 2 ^ 24) × (down (cond b (signed_of e) (pos 0)) ≤ 2 ^ 24)) [
      | true ↦ omega (arith, signed_small e)
      | false ↦ omega arith
    ]

square_at_small : (k : ℕ) (e : Encoding) → square_at k e ≤ 2 ^ 48
square_at_small k e =
    elim (eqb (field_of e) k) as (λ b. cond b (square_of e) 0 ≤ 2 ^ 48) [ true ↦ square_small e | false ↦ omega arith ]

-- the words of at most 288 replies are far from their ends
pub tells_roomy : (w : Words) (xs : List Encoding) → Tells w xs → length xs ≤ 288 → Roomy w
tells_roomy w xs t few k =
    let z = sum_z_small (signed_at k) (2 ^ 24) (signed_at_small k) xs in
    let q = sum_by_small (square_at k) (2 ^ 48) (square_at_small k) xs in
    omega (arith, ints, (t k).0, (t k).1, z.0, z.1, q)

module _ (w v : Words) (e : Encoding) (xs : List Encoding) (j : Joins w e v) where
  pub tells_more : Tells w xs → Tells v (xs ++ e ∷ [])
  tells_more t k = (omega (arith, ints, (t k).0, (j k).0, sum_z_push (signed_at k) xs e), omega (arith, (t k).1, (j k).1, sum_by_push (square_at k) xs e))

  pub tells_newer : Tells v (xs ++ e ∷ []) → Tells w xs
  tells_newer t k = (omega (arith, ints, (t k).0, (j k).0, sum_z_push (signed_at k) xs e), omega (arith, (t k).1, (j k).1, sum_by_push (square_at k) xs e))

  pub tells_older : Tells v (e ∷ xs) → Tells w xs
  unfolding sum_z
  tells_older t k = (omega (arith, ints, (t k).0, (j k).0), omega (arith, (t k).1, (j k).1, sum_by-cons (square_at k) e xs))

-- each reply stays finite
abbrev pub AllFinite : List Encoding → Type 0
AllFinite xs = (k : ℕ) → Finite (get_or xs k blank)

pub finite_more : (xs : List Encoding) (e : Encoding) → AllFinite xs → Finite e → AllFinite (xs ++ e ∷ [])
finite_more xs e all here k =
    ⊎_elim
    (λ (h : k ≡ length xs). rw (get_or_push xs e blank k (sym h)) here)
    (λ h.
    ⊎_elim
    (λ (h : k < length xs). rw (get_or_append_left xs (e ∷ []) blank k h) (all k))
    (λ (h : length xs < k).
    let past : length (xs ++ e ∷ []) ≤ k = omega (arith, length_push xs e) in
    rw (get_or_past (xs ++ e ∷ []) k blank past) refl)
    h)
    (cases_order k (length xs))

pub finite_newer : (xs : List Encoding) (e : Encoding) → AllFinite (xs ++ e ∷ []) → AllFinite xs
finite_newer xs e all k =
    ⊎_elim
    (λ (h : k < length xs). subst (λ (x : Encoding). Finite x) (get_or_append_left xs (e ∷ []) blank k h) (all k))
    (λ (h : length xs ≤ k). rw (get_or_past xs k blank h) refl)
    (cases_lt k (length xs))
