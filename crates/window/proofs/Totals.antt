-- The words at their places add up to the exact sums of the replies.
use Rattle.std.proofs.Common.{◌≡◌, ℕ, suc, ◌+◌, ◌-◌, ◌*◌, ◌^◌, ◌<◌, Bool, true, false, cond, eqb, ltb, List, [], ◌∷◌, get_or, ℤ, pos, negsuc, neg_ℤ, nat_abs, Option, sum_by, sym, refl, ap, ◌∙◌, subst, arith}
use borrow.Author.Differences.{up, down, ints, neg_is, abs_is}
use Rattle.std.proofs.lemmas.Bool.{lt-ltb, le-ltb, ltb-true}
use Rattle.std.proofs.lemmas.Nat.{pow-add}
use Rattle.std.proofs.lemmas.List.Sums.{sum_by-cons}
use Rattle.places.specs.Spread.{spread, ups, downs}
use Rattle.places.proofs.Spreading.{spread_same, spread_sum, spread_none, spread_single}
use Rattle.rounding.specs.declared.encoding.Encoding.{Encoding}
use Rattle.rounding.specs.Format.{binary32, negative, size, significand, shift, value}
use Rattle.window.specs.declared.words.Words.{Words}
use Rattle.window.specs.Replies.{Finite, field_of, signed_of, square_of, worth_of, worth_squared, sum_z, total, total_squares, below_zero}
use Rattle.window.specs.declared.ask.Ask.{Ask}
use Rattle.window.specs.Due.{Due}
use Rattle.window.specs.Words.{signed_at, square_at, Tells}
use Rattle.window.proofs.Holding.{AllFinite}

field_small : (e : Encoding) → Finite e → field_of e < 255
field_small e h = omega (arith, ltb-true (size binary32 e.bits) 2139095040 h)

sum_by_same : (f g : Encoding → ℕ) → ((x : Encoding) → f x ≡ g x) → (xs : List Encoding) → sum_by f xs ≡ sum_by g xs
sum_by_same f g e [] = refl
sum_by_same f g e (x ∷ xs) = omega (arith, sum_by-cons f x xs, sum_by-cons g x xs, e x, sum_by_same f g e xs)

-- a signed sum, by what the numbers have above 0 and below
sum_z_parts : (f : Encoding → ℤ) (xs : List Encoding) → up (sum_z f xs) + sum_by (λ x. down (f x)) xs ≡ down (sum_z f xs) + sum_by (λ x. up (f x)) xs
unfolding sum_z
sum_z_parts f [] = refl
sum_z_parts f (x ∷ xs) = omega (arith, ints, sum_by-cons (λ x. down (f x)) x xs, sum_by-cons (λ x. up (f x)) x xs, sum_z_parts f xs)

-- Adding up by fields, and then the fields at their places, is adding up the replies at theirs.
module _ (step : ℕ) (g : Encoding → ℕ) where
  abbrev by_field : ℕ → Encoding → ℕ
  by_field k x = cond (eqb (field_of x) k) (g x) 0

  exchange : (xs : List Encoding) → AllFinite xs → spread step (λ k. sum_by (by_field k) xs) 255 ≡ sum_by (λ x. g x * 2 ^ (step * (field_of x - 1))) xs
  exchange [] all = spread_none step (λ k. 0) 255 (λ k lt. refl)
  exchange (x ∷ xs) all =
      spread_same step (λ k. sum_by (by_field k) (x ∷ xs)) (λ k. by_field k x + sum_by (by_field k) xs) 255 (λ k lt. sum_by-cons (by_field k) x xs)
      ∙ spread_sum step (λ k. by_field k x) (λ k. sum_by (by_field k) xs) 255
      ∙ omega (
        arith,
        spread_single step (field_of x) (g x) 255 (field_small x (all 0)),
        exchange xs (λ k. all (suc k)),
        sum_by-cons (λ x. g x * 2 ^ (step * (field_of x - 1))) x xs,
      )

-- ---- squares
squared : (x : Encoding) → square_of x * 2 ^ (2 * (field_of x - 1)) ≡ worth_squared x
unfolding square_of worth_squared value shift
squared x =
    let s : ℕ = significand 8388608 (size binary32 x.bits) in
    let j : ℕ = field_of x - 1 in
    let e : 2 * j ≡ j + j = omega arith in
    let p : 2 ^ (2 * j) ≡ 2 ^ j * 2 ^ j = ap (λ (k : ℕ). 2 ^ k) e ∙ pow-add 2 j j in
    omega (arith, ap (λ (z : ℕ). s * s * z) p)

pub squares_total : (w : Words) (xs : List Encoding) → Tells w xs → AllFinite xs → spread 2 (λ k. get_or w.squares k 0) 255 ≡ total_squares xs
squares_total w xs t all =
    spread_same 2 (λ k. get_or w.squares k 0) (λ k. sum_by (square_at k) xs) 255 (λ k lt. (t k).1)
    ∙ exchange 2 square_of xs all
    ∙ sum_by_same (λ x. square_of x * 2 ^ (2 * (field_of x - 1))) worth_squared squared xs

-- ---- signed sums, for the part of each number above 0 and for that below
part_at : (part : ℤ → ℕ) (b : Bool) (z : ℤ) → part (pos 0) ≡ 0 → part (cond b z (pos 0)) ≡ cond b (part z) 0
part_at part true z h = refl
part_at part false z h = h

module _ (part : ℤ → ℕ) (none : part (pos 0) ≡ 0) (scaled : (b : Bool) (n q : ℕ) → part (cond b (neg_ℤ (pos (n * q))) (pos (n * q))) ≡ part (cond b (neg_ℤ (pos n)) (pos n)) * q) where
  part_worth : (x : Encoding) → part (signed_of x) * 2 ^ (1 * (field_of x - 1)) ≡ part (worth_of x)
  unfolding signed_of worth_of value shift
  part_worth x =
      let j : ℕ = field_of x - 1 in
      let e : 1 * j ≡ j = omega arith in
      ap (λ (k : ℕ). part (signed_of x) * 2 ^ k) e ∙ sym (scaled (negative binary32 x.bits) (significand 8388608 (size binary32 x.bits)) (2 ^ j))

  part_total : (xs : List Encoding) → AllFinite xs → spread 1 (λ k. sum_by (λ x. part (signed_at k x)) xs) 255 ≡ sum_by (λ x. part (worth_of x)) xs
  part_total xs all =
      spread_same 1 (λ k. sum_by (λ x. part (signed_at k x)) xs) (λ k. sum_by (λ x. cond (eqb (field_of x) k) (part (signed_of x)) 0) xs) 255
      (λ k lt. sum_by_same (λ x. part (signed_at k x)) (λ x. cond (eqb (field_of x) k) (part (signed_of x)) 0) (λ x. part_at part (eqb (field_of x) k) (signed_of x) none) xs)
      ∙ exchange 1 (λ x. part (signed_of x)) xs all
      ∙ sum_by_same (λ x. part (signed_of x) * 2 ^ (1 * (field_of x - 1))) (λ x. part (worth_of x)) part_worth xs

up_scaled : (b : Bool) (n q : ℕ) → up (cond b (neg_ℤ (pos (n * q))) (pos (n * q))) ≡ up (cond b (neg_ℤ (pos n)) (pos n)) * q
up_scaled true n q = (neg_is (pos (n * q))).0 ∙ sym (ap (λ (z : ℕ). z * q) (neg_is (pos n)).0 ∙ omega arith)
up_scaled false n q = refl

down_scaled : (b : Bool) (n q : ℕ) → down (cond b (neg_ℤ (pos (n * q))) (pos (n * q))) ≡ down (cond b (neg_ℤ (pos n)) (pos n)) * q
down_scaled true n q = (neg_is (pos (n * q))).1 ∙ sym (ap (λ (z : ℕ). z * q) (neg_is (pos n)).1)
down_scaled false n q = omega arith

pub sums_total : (w : Words) (xs : List Encoding) → Tells w xs → AllFinite xs → spread 1 (ups w.sums) 255 + down (total xs) ≡ spread 1 (downs w.sums) 255 + up (total xs)
sums_total w xs t all =
    let same = spread_same 1 (λ k. ups w.sums k + sum_by (λ x. down (signed_at k x)) xs) (λ k. downs w.sums k + sum_by (λ x. up (signed_at k x)) xs) 255 (λ k lt. omega (arith, ints, (t k).0, sum_z_parts (signed_at k) xs)) in
    let left = spread_sum 1 (ups w.sums) (λ k. sum_by (λ x. down (signed_at k x)) xs) 255 in
    let right = spread_sum 1 (downs w.sums) (λ k. sum_by (λ x. up (signed_at k x)) xs) 255 in
    omega (arith, same, left, right, part_total down refl down_scaled xs all, part_total up refl up_scaled xs all, sum_z_parts worth_of xs)

-- the size and the sign of a number whose parts are told apart by as much
pub size_is : (u d : ℕ) (z : ℤ) → u + down z ≡ d + up z → u - d + (d - u) ≡ nat_abs z
size_is u d z e = omega (arith, e, abs_is z)

pub sign_is : (u d : ℕ) (z : ℤ) → u + down z ≡ d + up z → ltb u d ≡ below_zero z
sign_is u d (pos n) e = le-ltb u d (omega arith)
sign_is u d (negsuc n) e = lt-ltb u d (omega arith)

pub due_at : (u : ℕ) (ask : Option Ask) {b b' : Bool} {s s' n n' : ℕ} → b ≡ b' → s ≡ s' → n ≡ n' → Due b s n u ask → Due b' s' n' u ask
due_at u ask {b} {b'} {s} {s'} {n} {n'} e f g h =
    subst (λ (x : Bool). Due x s' n' u ask) e (subst (λ (x : ℕ). Due b x n' u ask) f (subst (λ (x : ℕ). Due b s x u ask) g h))
