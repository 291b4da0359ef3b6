-- Copying a list into an array, place by place.
use Rattle.std.proofs.Common.{◌≡◌, ℕ, zero, suc, ◌+◌, ◌-◌, ◌<◌, List, [], ◌∷◌, ◌++◌, length, take, set, replicate, Some, None, sym, refl, ap, arith}
use Rattle.std.specs.List.{slice_get}

pub filled_more : {A : Type 0} (xs : List A) (n i : ℕ) (x z : A) → slice_get xs i ≡ Some x → i < n → set (take i xs ++ replicate (n - i) z) i x ≡ take (i + 1) xs ++ replicate (n - (i + 1)) z
filled_more [] n i x z e lt = let k : ◌≡◌ {A = ℕ} 0 1 = cc in absurd (omega arith)
filled_more (y ∷ ys) zero i x z e lt = absurd (omega arith)
filled_more (y ∷ ys) (suc n) zero x z e lt =
    let q : y ≡ x = cc in
    let a : suc n - 0 ≡ suc n = omega arith in
    let b : suc n - (0 + 1) ≡ n = omega arith in
    rw (a, b) (ap (λ w. w ∷ replicate n z) (sym q))
filled_more (y ∷ ys) (suc n) (suc i) x z e lt =
    let a : suc n - suc i ≡ n - i = omega arith in
    let b : suc n - (suc i + 1) ≡ n - (i + 1) = omega arith in
    let s : suc i + 1 ≡ suc (i + 1) = omega arith in
    let less : i < n = omega arith in
    rw (a, b, s) (ap (λ w. y ∷ w) (filled_more ys n i x z e less))

pub take_whole : {A : Type 0} (xs : List A) → take (length xs) xs ≡ xs
take_whole [] = refl
take_whole (x ∷ xs) = ap (λ w. x ∷ w) (take_whole xs)

pub nth_some : {A : Type 0} (xs : List A) (i : ℕ) → i < length xs → slice_get xs i ≡ None → ⊥
nth_some [] i lt e = omega arith
nth_some (x ∷ xs) zero lt e = let k : ◌≡◌ {A = ℕ} 0 1 = cc in omega arith
nth_some (x ∷ xs) (suc i) lt e = nth_some xs i (omega arith) e
