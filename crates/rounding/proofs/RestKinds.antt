-- The kind of a rest: by cases, and rising with the rest.
use Rattle.std.proofs.Common.{◌≡◌, ℕ, ◌*◌, ◌<◌, ◌≤◌, true, false, eqb, ltb, sym, refl, ap, ◌∙◌, ⊎_elim, lt_of_mul-lt-mul_right, mul-lt-mul_of_pos_right, le_of_mul-le-mul_right, arith}
use Rattle.std.proofs.lemmas.Bool.{cases_Bool, ltb-true, ltb-false, eqb-true, eqb-false}
use Rattle.std.proofs.lemmas.Nat.{mul-le}
use Rattle.rounding.specs.declared.rest.Rest.{Rest}
use Rattle.rounding.specs.declared.rest.Rest.TheVariants.{Nothing, UnderHalf, Half, OverHalf}
use Rattle.rounding.specs.Rounding.{kind}
use Rattle.rounding.specs.Rules.{rank}

-- each kind with what it tells
pub kind_cases :
    (r u : ℕ) (P : Rest → Type 0)
    → (r ≡ 0 → P Nothing)
    → (0 < r → 2 * r < u → P UnderHalf)
    → (0 < r → 2 * r ≡ u → P Half)
    → (0 < r → u < 2 * r → P OverHalf)
    → P (kind r u)
unfolding kind
kind_cases r u P none under half over =
    ⊎_elim
    (λ (e : eqb r 0 ≡ true). rw (e, kind) (none (eqb-true r 0 e)))
    (λ (e : eqb r 0 ≡ false).
    let rp : 0 < r = omega (arith, eqb-false r 0 e) in
    ⊎_elim
    (λ (l : ltb (2 * r) u ≡ true). rw (e, l, kind) (under rp (ltb-true (2 * r) u l)))
    (λ (l : ltb (2 * r) u ≡ false).
    ⊎_elim
    (λ (q : eqb (2 * r) u ≡ true). rw (e, l, q, kind) (half rp (eqb-true (2 * r) u q)))
    (λ (q : eqb (2 * r) u ≡ false). rw (e, l, q, kind) (over rp (omega (arith, ltb-false (2 * r) u l, eqb-false (2 * r) u q))))
    (cases_Bool (eqb (2 * r) u)))
    (cases_Bool (ltb (2 * r) u)))
    (cases_Bool (eqb r 0))

pub kind_nothing : (r u : ℕ) → r ≡ 0 → kind r u ≡ Nothing
kind_nothing r u z = kind_cases r u (λ k. k ≡ Nothing) (λ _. refl) (λ p _. absurd (omega arith)) (λ p _. absurd (omega arith)) (λ p _. absurd (omega arith))

pub kind_under : (r u : ℕ) → 0 < r → 2 * r < u → kind r u ≡ UnderHalf
kind_under r u p l = kind_cases r u (λ k. k ≡ UnderHalf) (λ z. absurd (omega arith)) (λ _ _. refl) (λ _ q. absurd (omega arith)) (λ _ q. absurd (omega arith))

pub kind_half : (r u : ℕ) → 0 < r → 2 * r ≡ u → kind r u ≡ Half
kind_half r u p l = kind_cases r u (λ k. k ≡ Half) (λ z. absurd (omega arith)) (λ _ q. absurd (omega arith)) (λ _ _. refl) (λ _ q. absurd (omega arith))

pub kind_over : (r u : ℕ) → 0 < r → u < 2 * r → kind r u ≡ OverHalf
kind_over r u p l = kind_cases r u (λ k. k ≡ OverHalf) (λ z. absurd (omega arith)) (λ _ q. absurd (omega arith)) (λ _ q. absurd (omega arith)) (λ _ _. refl)

-- a fraction not above another has a kind not above the other's
pub kind_rise : (r u r' u' : ℕ) → 0 < u → 0 < u' → r * u' ≤ r' * u → rank (kind r u) ≤ rank (kind r' u')
kind_rise r u r' u' up up' le =
    kind_cases r u (λ k. rank k ≤ rank (kind r' u'))
    (λ _. omega arith)
    (λ p _.
    let some : 1 * 1 ≤ r * u' = mul-le 1 1 r u' p up' in
    kind_cases r' u' (λ k. 1 ≤ rank k)
    (λ (z : r' ≡ 0). let y : r' * u ≡ 0 * u = ap (λ (x : ℕ). x * u) z in absurd (omega arith))
    (λ _ _. omega arith) (λ _ _. omega arith) (λ _ _. omega arith))
    (λ p e.
    let many : u * u' ≤ 2 * r' * u = omega (arith, ap (λ (x : ℕ). x * u') e) in
    let enough : u' ≤ 2 * r' = le_of_mul-le-mul_right (let t : u' * u ≤ 2 * r' * u = omega arith in t) up in
    kind_cases r' u' (λ k. 2 ≤ rank k) (λ zz. absurd (omega arith)) (λ pp qq. absurd (omega arith)) (λ _ _. omega arith) (λ _ _. omega arith))
    (λ p l.
    let many : u * u' < 2 * r * u' = mul-lt-mul_of_pos_right l up' in
    let enough : u' < 2 * r' = lt_of_mul-lt-mul_right u (let t : u' * u < 2 * r' * u = omega arith in t) in
    kind_cases r' u' (λ k. 3 ≤ rank k) (λ zz. absurd (omega arith)) (λ pp qq. absurd (omega arith)) (λ pp qq. absurd (omega arith)) (λ _ _. omega arith))

-- a kind is known by its rank
of_rank : ℕ → Rest
of_rank n = elim (eqb n 0) [ true ↦ Nothing | false ↦ elim (eqb n 1) [ true ↦ UnderHalf | false ↦ elim (eqb n 2) [ true ↦ Half | false ↦ OverHalf ] ] ]

of_rank_rank : (k : Rest) → of_rank (rank k) ≡ k
unfolding of_rank
of_rank_rank Nothing = refl
of_rank_rank UnderHalf = refl
of_rank_rank Half = refl
of_rank_rank OverHalf = refl

pub rank_only : (k l : Rest) → rank k ≤ rank l → rank l ≤ rank k → k ≡ l
rank_only k l p q = let e : rank k ≡ rank l = omega arith in sym (of_rank_rank k) ∙ ap of_rank e ∙ of_rank_rank l
