-- Binary digits: one more, a write, and the parts below and above a place.
use Rattle.std.proofs.Common.{◌≡◌, ℕ, zero, suc, ◌+◌, ◌*◌, ◌/◌, ◌%◌, ◌^◌, ◌<◌, ◌≤◌, eqb, ◌≢◌, ⊎_elim, Bool, true, false, List, [], ◌∷◌, ◌++◌, length, get_or, take, drop, set, replicate, sym, refl, ap, ◌∙◌, subst, add-one, arith}
use native.Mathlib.Nat.{pow-succ', pow-le-pow_right}
use Rattle.std.proofs.lemmas.List.{take_more, take_more_set, take_all, take_at, drop_at, length-take, length-take-le, length-set, length-append, length-drop, length-replicate}
use borrow.Rule.Slice.PartMut.{put_mid}
use Rattle.std.proofs.lemmas.Slice.{take-put_mid}
use Rattle.std.proofs.lemmas.Nat.{pow_pos, pow-add}
use lib.Seq.{drop-drop}
use Rattle.std.proofs.lemmas.Bool.{cases_eq, eq-eqb, ne_eqb}
use Rattle.places.specs.Digits.{bit, bits_value}

pub pow_next : (k : ℕ) → 2 ^ (k + 1) ≡ 2 * 2 ^ k
pow_next k = rw add-one (pow-succ' 2 k)

pow_suc : (k : ℕ) → 2 ^ suc k ≡ 2 * 2 ^ k
pow_suc k = pow-succ' 2 k

pub value_push : (xs : List Bool) (b : Bool) → bits_value (xs ++ b ∷ []) ≡ bits_value xs + bit b * 2 ^ length xs
unfolding bits_value
value_push [] b = omega arith
value_push (x ∷ xs) b = omega (arith, value_push xs b, ap (λ (p : ℕ). bit b * p) (pow_suc (length xs)))

pub value_below : (xs : List Bool) → bits_value xs < 2 ^ length xs
unfolding bits_value
value_below [] = omega arith
value_below (true ∷ xs) = omega (arith, value_below xs, pow_suc (length xs))
value_below (false ∷ xs) = omega (arith, value_below xs, pow_suc (length xs))

pub value_split : (n : ℕ) (xs : List Bool) → bits_value xs ≡ bits_value (take n xs) + 2 ^ n * bits_value (drop n xs)
unfolding bits_value
value_split zero xs = omega arith
value_split (suc n) [] = omega arith
value_split (suc n) (x ∷ xs) = omega (arith, value_split n xs, ap (λ (p : ℕ). p * bits_value (drop n xs)) (pow_suc n))

pub value_append : (xs ys : List Bool) → bits_value (xs ++ ys) ≡ bits_value xs + 2 ^ length xs * bits_value ys
value_append xs ys = omega (arith, value_split (length xs) (xs ++ ys), ap bits_value (take_at xs ys (length xs) refl), ap (λ (zs : List Bool). 2 ^ length xs * bits_value zs) (drop_at xs ys (length xs) refl))

odd : (c : ℕ) → bit (eqb (c % 2) 1) + 2 * (c / 2) ≡ c
odd c =
    ⊎_elim
    (λ (h : c % 2 ≡ 1). rw (eq-eqb (c % 2) 1 h) (omega arith))
    (λ (h : c % 2 ≢ 1). rw (ne_eqb (c % 2) 1 h) (omega arith))
    (cases_eq (c % 2) 1)

module _ (xs : List Bool) (i : ℕ) (within : i < length xs) where
  -- one more digit
  pub value_more : (d : Bool) → bits_value (take (i + 1) xs) ≡ bits_value (take i xs) + bit (get_or xs i d) * 2 ^ i
  value_more d =
      ap bits_value (take_more xs i d within)
      ∙ value_push (take i xs) (get_or xs i d)
      ∙ ap (λ (n : ℕ). bits_value (take i xs) + bit (get_or xs i d) * 2 ^ n) (length-take-le i xs (omega arith))

  -- a digit that is written
  pub value_set : (b : Bool) → bits_value (take (i + 1) (set xs i b)) ≡ bits_value (take i xs) + bit b * 2 ^ i
  value_set b =
      ap bits_value (take_more_set xs i b within)
      ∙ value_push (take i xs) b
      ∙ ap (λ (n : ℕ). bits_value (take i xs) + bit b * 2 ^ n) (length-take-le i xs (omega arith))

-- what lies below a place is less than it
pub value_below_at : (xs : List Bool) (i : ℕ) → bits_value (take i xs) < 2 ^ i
value_below_at xs i =
    let few : length (take i xs) ≤ i = omega (arith, length-take i xs) in
    let p : 2 ^ length (take i xs) ≤ 2 ^ i = pow-le-pow_right (omega arith) few in
    omega (arith, value_below (take i xs), p)

-- Of the n digits ds those below place i are out, and the carry c holds the rest of the sum s.
abbrev pub Carrying : ℕ → List Bool → ℕ → ℕ → ℕ → Type 0
Carrying n ds i c s = (length ds ≡ n) × (bits_value (take i ds) + c * 2 ^ i ≡ s)

pub carrying_first : (n c : ℕ) → Carrying n (replicate n false) 0 c c
unfolding bits_value
carrying_first n c = (length-replicate n false, omega arith)

-- the lowest digit of the carry goes out
pub carrying_next : (n : ℕ) (ds : List Bool) (i c s : ℕ) → i < n → Carrying n ds i c s → Carrying n (set ds i (eqb (c % 2) 1)) (i + 1) (c / 2) s
carrying_next n ds i c s lt h = (
  length-set ds i (eqb (c % 2) 1) ∙ h.0,
  omega (arith, h.1, value_set ds i (omega (arith, h.0)) (eqb (c % 2) 1), ap (λ (z : ℕ). z * 2 ^ i) (odd c), ap (λ (p : ℕ). c / 2 * p) (pow_next i)),
)

-- m digits of the carry's sum with the word w go out at once
pub carrying_more : (n : ℕ) (ds bs : List Bool) (i j k m c s c' w : ℕ) → Carrying n ds i c s → j ≤ n → length bs ≡ m → k ≡ m → j ≡ i + m → bits_value bs + c' * 2 ^ m ≡ c + w → Carrying n (put_mid i k ds bs) j c' (s + w * 2 ^ i)
carrying_more n ds bs i j k m c s c' w h few long km jm e =
    let within : i ≤ length ds = omega (arith, h.0) in
    let t : take j (put_mid i k ds bs) ≡ take i ds ++ bs = take-put_mid i k ds bs j (omega arith) within in
    let v = ap bits_value t ∙ value_append (take i ds) bs ∙ ap (λ (z : ℕ). bits_value (take i ds) + 2 ^ z * bits_value bs) (length-take-le i ds within) in (
      simp (length-append, length-drop) (omega (arith, h.0, length-take-le i ds within)),
      omega (arith, h.1, v, ap (λ (z : ℕ). z * 2 ^ i) e, ap (λ (z : ℕ). c' * 2 ^ z) jm, ap (λ (p : ℕ). c' * p) (pow-add 2 i m)),
    )

no_part : (a b p : ℕ) → 0 < p → a + p * b ≡ 0 → b ≡ 0
no_part a zero p some e = refl
no_part a (suc b) p some e = absurd (omega (arith, e))

-- digits that are all 0, and those above a place where they are
pub value_none : (n : ℕ) → bits_value (replicate n false) ≡ 0
unfolding bits_value
value_none zero = refl
value_none (suc n) = omega (arith, value_none n)

pub none_above : (xs : List Bool) (i m : ℕ) → bits_value (drop i xs) ≡ 0 → bits_value (drop (i + m) xs) ≡ 0
none_above xs i m e =
    let ys : List Bool = drop i xs in
    let z : bits_value (drop m ys) ≡ 0 = no_part (bits_value (take m ys)) (bits_value (drop m ys)) (2 ^ m) (pow_pos m) (sym (value_split m ys) ∙ e) in
    ap bits_value (sym (drop-drop m i xs)) ∙ z

pub none_above_more : (ds bs : List Bool) (i j k m : ℕ) → i ≤ length ds → length bs ≡ m → k ≡ m → j ≡ i + m → bits_value (drop i ds) ≡ 0 → bits_value (drop j (put_mid i k ds bs)) ≡ 0
none_above_more ds bs i j k m within long km jm e =
    let rest : List Bool = drop k (drop i ds) in
    let front : drop i (put_mid i k ds bs) ≡ bs ++ rest = drop_at (take i ds) (bs ++ rest) i (length-take-le i ds within) in
    let back : drop m (bs ++ rest) ≡ rest = drop_at bs rest m long in
    let both : drop j (put_mid i k ds bs) ≡ rest = ap (λ (n : ℕ). drop n (put_mid i k ds bs)) jm ∙ sym (drop-drop m i (put_mid i k ds bs)) ∙ ap (λ (xs : List Bool). drop m xs) front ∙ back in
    ap bits_value (both ∙ drop-drop k i ds) ∙ none_above ds i k e

nothing_over : (v c p s : ℕ) → v + c * p ≡ s → s < p → v ≡ s
nothing_over v zero p s e lt = omega (arith, e)
nothing_over v (suc c) p s e lt = absurd (omega (arith, e))

pub carrying_all : (n : ℕ) (ds : List Bool) (i c s : ℕ) → i ≡ n → Carrying n ds i c s → bits_value ds + c * 2 ^ n ≡ s
carrying_all n ds i c s e h =
    ap (λ (xs : List Bool). bits_value xs + c * 2 ^ n) (sym (take_all n ds (omega (arith, h.0)))) ∙ subst (λ (m : ℕ). bits_value (take m ds) + c * 2 ^ m ≡ s) e h.1

-- all is written below a place that the sum does not reach
pub carrying_out : (n : ℕ) (ds : List Bool) (i c s : ℕ) → Carrying n ds i c s → bits_value (drop i ds) ≡ 0 → s < 2 ^ i → bits_value ds ≡ s
carrying_out n ds i c s h above lt =
    let low : bits_value (take i ds) ≡ s = nothing_over (bits_value (take i ds)) c (2 ^ i) s h.1 lt in
    value_split i ds ∙ ap (λ (v : ℕ). bits_value (take i ds) + 2 ^ i * v) above ∙ omega (arith, low)

-- one digit written anew
pub value_write : (xs : List Bool) (i : ℕ) (b : Bool) → i < length xs → bits_value (set xs i b) + bit (get_or xs i false) * 2 ^ i ≡ bits_value xs + bit b * 2 ^ i
unfolding bits_value
value_write [] i b h = absurd (omega arith)
value_write (x ∷ xs) zero b h = omega arith
value_write (x ∷ xs) (suc i) b h = omega (arith, value_write xs i b (omega arith), ap (λ (p : ℕ). bit (get_or xs i false) * p) (pow_suc i), ap (λ (p : ℕ). bit b * p) (pow_suc i))
