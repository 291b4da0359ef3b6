-- The pair that a mean asks is the only one with its properties.
use Rattle.std.proofs.Common.{◌≡◌, ℕ, ◌+◌, ◌-◌, ◌*◌, ◌/◌, ◌^◌, ◌<◌, ◌≤◌, ◌⊎◌, sym, ap, ◌∙◌, subst, inl, inr, ⊎_elim, mul-le-mul_right, mul-le-mul_left, mul-lt-mul_of_pos_right, div-one, arith, lit<}
use native.Mathlib.Nat.{pow-le-pow_right}
use Rattle.std.proofs.lemmas.Bool.{cases_lt, cases_eq}
use Rattle.std.proofs.lemmas.Nat.{pow_pos, pow-add, shl-shr, shr-shr, mul-le}
use Rattle.rounding.specs.Rounding.{doublings}
use Rattle.rounding.proofs.Values.{pow_next}
use Rattle.rounding.proofs.Places.{doubled, below_pow}
use Rattle.means.specs.Defined.{sum_dividend}

-- a number lies in [c, 2c) times a power of two for one power only
lesser_power : (c v i j : ℕ) → i < j → c * 2 ^ j ≤ v → v < 2 * c * 2 ^ i → ⊥
lesser_power c v i j lt ge small =
    let p : 2 ^ (i + 1) ≤ 2 ^ j = pow-le-pow_right {n = 2} (lit< tt) (omega arith) in
    omega (arith, mul-le-mul_left c p, ap (λ (z : ℕ). c * z) (pow_next i))

one_power : (c v i j : ℕ) → c * 2 ^ i ≤ v → v < 2 * c * 2 ^ i → c * 2 ^ j ≤ v → v < 2 * c * 2 ^ j → i ≡ j
one_power c v i j li ui lj uj =
    ⊎_elim (λ (lt : i < j). absurd (lesser_power c v i j lt lj ui))
    (λ (ge : j ≤ i). ⊎_elim (λ (lt : j < i). absurd (lesser_power c v j i lt li uj)) (λ (le : i ≤ j). omega arith) (cases_lt j i))
    (cases_lt i j)

-- how far s is doubled, or halved, to come into [c, 2c)
module _ (s c : ℕ) (sp : 0 < s) (cp : 0 < c) (cl : c ≤ 2 ^ 64) where
  raised : ℕ
  raised = doublings 64 (c - 1) s

  lowered : ℕ
  lowered = doublings s s (2 * c)

  raised_is : (c ≤ s * 2 ^ raised) × ((raised ≡ 0) ⊎ (s * 2 ^ raised < 2 * c))
  unfolding raised
  raised_is =
      let w : c - 1 < s * 2 ^ 64 = omega (arith, mul-le-mul_right (2 ^ 64) sp) in
      let d = doubled 64 (c - 1) s w in
      (omega (arith, d.0), ⊎_elim (λ z. inl z) (λ (le : s * 2 ^ doublings 64 (c - 1) s ≤ 2 * (c - 1)). inr (omega arith)) d.1)

  lowered_is : (s < 2 * c * 2 ^ lowered) × ((lowered ≡ 0) ⊎ (c * 2 ^ lowered ≤ s))
  unfolding lowered
  lowered_is =
      let w : s < 2 * c * 2 ^ s = omega (arith, below_pow s, mul-le-mul_right (2 ^ s) cp) in
      let d = doubled s s (2 * c) w in
      (d.0, ⊎_elim (λ z. inl z) (λ (le : 2 * c * 2 ^ doublings s s (2 * c) ≤ 2 * s). inr (omega arith)) d.1)

  -- s is doubled where it is below 2c, and else halved
  up_case : s < 2 * c → (lowered ≡ 0) × (s * 2 ^ raised < 2 * c)
  up_case lt =
      let r = raised_is in
      let l = lowered_is in (
        ⊎_elim (λ z. z)
            (λ (le : c * 2 ^ lowered ≤ s).
            ⊎_elim (λ (z : lowered ≡ 0). z)
            (λ (nz : lowered ≡ 0 → ⊥).
            let some : 1 ≤ lowered = omega arith in
            let p : 2 ^ 1 ≤ 2 ^ lowered = pow-le-pow_right {n = 2} (lit< tt) some in
            absurd (omega (arith, mul-le-mul_left c p)))
            (cases_eq lowered 0))
            l.1,
        ⊎_elim (λ (z : raised ≡ 0). let e : s * 2 ^ raised ≡ s * 1 = ap (λ (k : ℕ). s * 2 ^ k) z in omega arith) (λ z. z) r.1,
      )

  down_case : 2 * c ≤ s → (raised ≡ 0) × (c * 2 ^ lowered ≤ s)
  down_case ge =
      let r = raised_is in
      let l = lowered_is in
      let one : 1 * 1 ≤ 2 ^ raised = omega (arith, pow_pos raised) in (
        ⊎_elim (λ z. z) (λ (lt : s * 2 ^ raised < 2 * c). absurd (omega (arith, mul-le-mul_left s (pow_pos raised)))) r.1,
        ⊎_elim (λ (z : lowered ≡ 0). let e : c * 2 ^ lowered ≡ c * 1 = ap (λ (k : ℕ). c * 2 ^ k) z in omega arith) (λ z. z) l.1,
      )

  -- whoever has the properties is the defined dividend
  module _ (raise lower : ℕ) (ge : c * 2 ^ lower ≤ s * 2 ^ raise) (lt : s * 2 ^ raise < 2 * c * 2 ^ lower) where
    by_doubling : s < 2 * c → s * 2 ^ raise / 2 ^ lower ≡ s * 2 ^ raised / 2 ^ lowered
    by_doubling small =
        let u = up_case small in
        let r = raised_is in
        ⊎_elim
        (λ (short : raise < raised).
        let t : ℕ = raised - raise - 1 in
        let e : raise + (t + 1) ≡ raised = omega arith in
        let p : 2 ^ raise * (2 * 2 ^ t) ≡ 2 ^ raised = ap (λ (z : ℕ). 2 ^ raise * z) (sym (pow_next t)) ∙ sym (pow-add 2 raise (t + 1)) ∙ ap (λ (z : ℕ). 2 ^ z) e in
        let q : s * (2 ^ raise * (2 * 2 ^ t)) ≡ s * 2 ^ raised = ap (λ (z : ℕ). s * z) p in
        let w : c * 2 ^ lower * (2 * 2 ^ t) ≤ s * 2 ^ raise * (2 * 2 ^ t) = mul-le-mul_right (2 * 2 ^ t) ge in
        let one : 1 * 1 ≤ 2 ^ lower * 2 ^ t = mul-le 1 1 (2 ^ lower) (2 ^ t) (pow_pos lower) (pow_pos t) in
        absurd (omega (arith, u.1, mul-le-mul_left c one)))
        (λ (long : raised ≤ raise).
        let t : ℕ = raise - raised in
        let e : raised + t ≡ raise = omega arith in
        let p : 2 ^ raise ≡ 2 ^ raised * 2 ^ t = ap (λ (z : ℕ). 2 ^ z) (sym e) ∙ pow-add 2 raised t in
        let q : s * 2 ^ raise ≡ s * 2 ^ raised * 2 ^ t = ap (λ (z : ℕ). s * z) p ∙ omega arith in
        let a : c * 2 ^ t ≤ s * 2 ^ raised * 2 ^ t = mul-le-mul_right (2 ^ t) r.0 in
        let b : s * 2 ^ raised * 2 ^ t < 2 * c * 2 ^ t = mul-lt-mul_of_pos_right u.1 (pow_pos t) in
        let same : lower ≡ t = one_power c (s * 2 ^ raise) lower t ge lt (omega arith) (omega arith) in
        let f : s * 2 ^ raised * 2 ^ t / 2 ^ t ≡ s * 2 ^ raised = shl-shr (s * 2 ^ raised) t in
        ap (λ (z : ℕ). z / 2 ^ lower) q ∙ ap (λ (z : ℕ). s * 2 ^ raised * 2 ^ t / 2 ^ z) same ∙ f ∙ sym (ap (λ (z : ℕ). s * 2 ^ raised / 2 ^ z) u.0 ∙ div-one (s * 2 ^ raised)))
        (cases_lt raise raised)

    by_halving : 2 * c ≤ s → s * 2 ^ raise / 2 ^ lower ≡ s * 2 ^ raised / 2 ^ lowered
    by_halving big =
        let d = down_case big in
        let l = lowered_is in
        let j : ℕ = lowered in
        let p : 2 ^ (j + raise) ≡ 2 ^ j * 2 ^ raise = pow-add 2 j raise in
        let a : c * 2 ^ (j + raise) ≤ s * 2 ^ raise = omega (arith, mul-le-mul_right (2 ^ raise) d.1, ap (λ (z : ℕ). c * z) p) in
        let b : s * 2 ^ raise < 2 * c * 2 ^ (j + raise) = omega (arith, mul-lt-mul_of_pos_right l.0 (pow_pos raise), ap (λ (z : ℕ). c * z) p) in
        let same : lower ≡ j + raise = one_power c (s * 2 ^ raise) lower (j + raise) ge lt a b in
        let turn : lower ≡ raise + j = omega arith in
        let z : s * 2 ^ raised ≡ s = ap (λ (k : ℕ). s * 2 ^ k) d.0 ∙ omega arith in
        ap (λ (k : ℕ). s * 2 ^ raise / 2 ^ k) turn ∙ sym (shr-shr (s * 2 ^ raise) raise j) ∙ ap (λ (k : ℕ). k / 2 ^ j) (shl-shr s raise ∙ sym z)

    only_one : s * 2 ^ raise / 2 ^ lower ≡ s * 2 ^ raised / 2 ^ lowered
    only_one = ⊎_elim by_doubling by_halving (cases_lt s (2 * c))

pub dividend_only : (s d raise lower : ℕ) → 0 < s → 0 < d → d < 16777216 → 16777216 * d * 2 ^ lower ≤ s * 2 ^ raise → s * 2 ^ raise < 33554432 * d * 2 ^ lower → s * 2 ^ raise / 2 ^ lower ≡ sum_dividend s d
unfolding sum_dividend raised lowered
dividend_only s d raise lower sp dp dl ge lt =
    let e : 2 * (16777216 * d) ≡ 33554432 * d = omega arith in
    subst (λ (z : ℕ). s * 2 ^ raise / 2 ^ lower ≡ s * 2 ^ doublings 64 (16777216 * d - 1) s / 2 ^ doublings s s z) e
    (only_one s (16777216 * d) sp (omega arith) (omega arith) raise lower ge (omega (arith, ap (λ (z : ℕ). z * 2 ^ lower) e)))
