-- Words and the replies that they add up: bounds, and one reply more or less.
use Rattle.std.proofs.Common.{◌≡◌, ℕ, zero, suc, ◌^◌, ◌<◌, ◌≤◌, Bool, true, false, cond, ◌≢◌, List, length, get_or, set, replicate, pos, neg_ℤ, sym, refl, ⊎_elim, arith}
use borrow.Author.Differences.{up, down, ints}
use Rattle.std.proofs.lemmas.Bool.Decides.{nat_tests}
use Rattle.std.proofs.lemmas.Bool.{cases_eq, ne_eqb, eq-eqb}
use Rattle.std.proofs.lemmas.Nat.{mul-le}
use Rattle.std.proofs.lemmas.List.{get_or-set_same, get_or-set_other}
use Rattle.rounding.specs.declared.encoding.Encoding.{Encoding}
use Rattle.rounding.specs.Format.{binary32, negative, size, significand}
use Rattle.window.specs.Replies.{field_of, signed_of, square_of}
use Rattle.window.specs.Words.{signed_at, square_at}

pub significand_small : (n : ℕ) → significand 8388608 n < 16777216
unfolding significand
significand_small n = grind (arith, nat_tests)

signed_by : (b : Bool) (n : ℕ) → (up (cond b (neg_ℤ (pos n)) (pos n)) ≤ n) × (down (cond b (neg_ℤ (pos n)) (pos n)) ≤ n)
signed_by true n = omega (arith, ints)
signed_by false n = omega (arith, ints)

pub signed_small : (e : Encoding) → (up (signed_of e) < 2 ^ 24) × (down (signed_of e) < 2 ^ 24)
unfolding signed_of
signed_small e =
    let n : ℕ = significand 8388608 (size binary32 e.bits) in
    omega (arith, significand_small (size binary32 e.bits), signed_by (negative binary32 e.bits) n)

pub square_small : (e : Encoding) → square_of e ≤ 2 ^ 48
unfolding square_of
square_small e =
    let n : ℕ = size binary32 e.bits in
    let s : significand 8388608 n ≤ 16777216 = omega (arith, significand_small n) in
    mul-le (significand 8388608 n) (significand 8388608 n) 16777216 16777216 s s

-- what a write at one place changes, place by place
pub at_place : {X : Type 0} (R : ℕ → X → X → Type 0) (xs : List X) (f : ℕ) (z d : X) → f < length xs → R f (get_or xs f d) z → ((k : ℕ) → k ≢ f → R k (get_or xs k d) (get_or xs k d)) → (k : ℕ) → R k (get_or xs k d) (get_or (set xs f z) k d)
at_place R xs f z d within here apart k =
    ⊎_elim
    (λ (e : k ≡ f). rw e (rw (get_or-set_same xs f z d within) here))
    (λ (ne : k ≢ f). rw (get_or-set_other xs f k z d ne) (apart k ne))
    (cases_eq k f)

pub signed_here : (e : Encoding) (k : ℕ) → k ≡ field_of e → signed_at k e ≡ signed_of e
signed_here e k h = rw (eq-eqb (field_of e) k (sym h))

pub signed_apart : (e : Encoding) (k : ℕ) → k ≢ field_of e → signed_at k e ≡ pos 0
signed_apart e k h = rw (ne_eqb (field_of e) k (λ z. h (sym z)))

pub square_here : (e : Encoding) (k : ℕ) → k ≡ field_of e → square_at k e ≡ square_of e
square_here e k h = rw (eq-eqb (field_of e) k (sym h))

pub square_apart : (e : Encoding) (k : ℕ) → k ≢ field_of e → square_at k e ≡ 0
square_apart e k h = rw (ne_eqb (field_of e) k (λ z. h (sym z)))

-- words of nothing
pub of_none : {X : Type 0} (n : ℕ) (x : X) (k : ℕ) → get_or (replicate n x) k x ≡ x
of_none zero x k = refl
of_none (suc n) x zero = refl
of_none (suc n) x (suc k) = of_none n x k
