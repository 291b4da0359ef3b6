-- The size that a rule chooses: it rises with the value, keeps what the format has, and is one of the two neighbours.
use Rattle.std.proofs.Common.{◌≡◌, ℕ, ◌+◌, ◌-◌, ◌*◌, ◌%◌, ◌^◌, ◌<◌, ◌≤◌, Bool, true, false, cond, eqb, ltb, ◌⊎◌, sym, refl, ap, ◌∙◌, subst, inl, inr, ⊎_elim, mul-le-mul_right, lt_of_mul-lt-mul_right, mul-lt-mul_of_pos_right, arith}
use Rattle.std.proofs.lemmas.Bool.{cases_lt, cases_Bool, lt-ltb, le-ltb}
use Rattle.std.proofs.lemmas.Nat.{pow_pos, mul-le}
use Rattle.rounding.specs.declared.rest.Rest.{Rest}
use Rattle.rounding.specs.declared.rest.Rest.TheVariants.{Nothing}
use Rattle.rounding.specs.Format.{value, significand, shift}
use Rattle.rounding.specs.Rules.{Meaning, Lawful, rank}
use Rattle.rounding.specs.Rounding.{place, whole, remainder, unit, rest, low, odd, chosen, settled, raised, inexact_flags, kind}
use Rattle.rounding.proofs.Values.{value_at, value_le, value_step}
use Rattle.rounding.proofs.Places.{splits, Low, low_bounds, low_le, low_only, low_laid}
use Rattle.rounding.proofs.RestKinds.{kind_rise, kind_nothing, rank_only}

one_or_none : (b : Bool) → cond {A = ℕ} b 1 0 ≤ 1
one_or_none true = omega arith
one_or_none false = omega arith

pub chosen_bounds : (m : Meaning) (s : Bool) (h a b : ℕ) → (low h a b ≤ chosen m s h a b) × (chosen m s h a b ≤ low h a b + 1)
unfolding chosen
chosen_bounds m s h a b = let o = one_or_none (m.grow s (odd (whole h a b)) (rest h a b)) in (omega arith, omega arith)

module _ (h a b c d : ℕ) (hp : 0 < h) (bp : 0 < b) (dp : 0 < d) where
  low_rise : a * d ≤ c * b → low h a b ≤ low h c d
  low_rise le = low_le h a b c d (low h a b) (low h c d) hp bp dp le (low_bounds h a b hp bp) (low_bounds h c d hp dp)

  -- of two values between the same neighbours the lesser has the lesser rest
  rest_rise : low h a b ≡ low h c d → a * d ≤ c * b → rank (rest h a b) ≤ rank (rest h c d)
  unfolding rest unit
  rest_rise same le =
      let j : ℕ = place h a b in
      let n : ℕ = whole h a b in
      let l = low_laid h a b hp bp in
      let k = low_laid h c d hp dp in
      let pj : place h c d ≡ j = k.0 ∙ ap (shift h) (sym same) ∙ sym l.0 in
      let wn : whole h c d ≡ n = k.1 ∙ ap (significand h) (sym same) ∙ sym l.1 in
      let s = splits h a b hp bp in
      let t = splits h c d hp dp in
      let tp : n * (d * 2 ^ j) + remainder h c d ≡ c =
      subst (λ (z : ℕ). n * (d * 2 ^ z) + remainder h c d ≡ c) pj (subst (λ (z : ℕ). z * (d * 2 ^ place h c d) + remainder h c d ≡ c) wn t.parts) in
      let x : (n * (b * 2 ^ j) + remainder h a b) * d ≡ a * d = ap (λ (z : ℕ). z * d) s.parts in
      let y : (n * (d * 2 ^ j) + remainder h c d) * b ≡ c * b = ap (λ (z : ℕ). z * b) tp in
      let r : remainder h a b * d ≤ remainder h c d * b = omega arith in
      let r' : remainder h a b * (d * 2 ^ j) ≤ remainder h c d * (b * 2 ^ j) = omega (arith, mul-le-mul_right (2 ^ j) r) in
      subst (λ (z : ℕ). rank (kind (remainder h a b) (b * 2 ^ j)) ≤ rank (kind (remainder h c d) (d * 2 ^ z))) (sym pj)
      (kind_rise (remainder h a b) (b * 2 ^ j) (remainder h c d) (d * 2 ^ j) (mul-le 1 1 b (2 ^ j) bp (pow_pos j)) (mul-le 1 1 d (2 ^ j) dp (pow_pos j)) r')

  whole_same : low h a b ≡ low h c d → whole h a b ≡ whole h c d
  whole_same same = (low_laid h a b hp bp).1 ∙ ap (significand h) same ∙ sym (low_laid h c d hp dp).1

  pub chosen_rise : (m : Meaning) (s : Bool) → Lawful m → a * d ≤ c * b → chosen m s h a b ≤ chosen m s h c d
  unfolding chosen
  chosen_rise m s law le =
      ⊎_elim
      (λ (lt : low h a b < low h c d). omega (arith, (chosen_bounds m s h a b).1, (chosen_bounds m s h c d).0))
      (λ (ge : low h c d ≤ low h a b).
      let same : low h a b ≡ low h c d = omega (arith, low_rise le) in
      let o : odd (whole h a b) ≡ odd (whole h c d) = ap odd (whole_same same) in
      ⊎_elim
      (λ (g : m.grow s (odd (whole h a b)) (rest h a b) ≡ true).
      let g' : m.grow s (odd (whole h c d)) (rest h c d) ≡ true =
      subst (λ (z : Bool). m.grow s z (rest h c d) ≡ true) o (law.rising s (odd (whole h a b)) (rest h a b) (rest h c d) (rest_rise same le) g) in
      simp (g, g') (omega arith))
      (λ (g : m.grow s (odd (whole h a b)) (rest h a b) ≡ false). simp g (omega arith))
      (cases_Bool (m.grow s (odd (whole h a b)) (rest h a b))))
      (cases_lt (low h a b) (low h c d))

  -- equal values have the same low, rest, choice and flags
  low_same : a * d ≡ c * b → low h a b ≡ low h c d
  low_same e =
      omega (arith, low_rise (omega arith), low_le h c d a b (low h c d) (low h a b) hp dp bp (omega arith) (low_bounds h c d hp dp) (low_bounds h a b hp bp))

rest_same : (h a b c d : ℕ) → 0 < h → 0 < b → 0 < d → a * d ≡ c * b → rest h a b ≡ rest h c d
rest_same h a b c d hp bp dp e =
    let same = low_same h a b c d hp bp dp e in
    rank_only (rest h a b) (rest h c d) (rest_rise h a b c d hp bp dp same (omega arith)) (rest_rise h c d a b hp dp bp (sym same) (omega arith))

pub chosen_same : (h a b c d : ℕ) → 0 < h → 0 < b → 0 < d → a * d ≡ c * b → (m : Meaning) (s : Bool) → chosen m s h a b ≡ chosen m s h c d
unfolding chosen
chosen_same h a b c d hp bp dp e m s =
    let same = low_same h a b c d hp bp dp e in
    simp (rest_same h a b c d hp bp dp e, whole_same h a b c d hp bp dp same, same)

tiny_same : (h a b c d : ℕ) → 0 < b → 0 < d → a * d ≡ c * b → ltb a (b * h) ≡ ltb c (d * h)
tiny_same h a b c d bp dp e =
    ⊎_elim
    (λ (lt : a < b * h).
    let p : a * d < b * h * d = mul-lt-mul_of_pos_right lt dp in
    let q : c < d * h = lt_of_mul-lt-mul_right b (let t : c * b < d * h * b = omega arith in t) in
    lt-ltb a (b * h) lt ∙ sym (lt-ltb c (d * h) q))
    (λ (ge : b * h ≤ a).
    ⊎_elim
    (λ (lt : c < d * h).
    let p : c * b < d * h * b = mul-lt-mul_of_pos_right lt bp in
    let q : b * h * d ≤ a * d = mul-le-mul_right d ge in
    absurd (omega arith))
    (λ (ge' : d * h ≤ c). le-ltb a (b * h) ge ∙ sym (le-ltb c (d * h) ge'))
    (cases_lt c (d * h)))
    (cases_lt a (b * h))

pub raised_same : (h a b c d : ℕ) → 0 < h → 0 < b → 0 < d → a * d ≡ c * b → (m : Meaning) (s : Bool) (top : ℕ) → raised m s h top a b ≡ raised m s h top c d
unfolding raised
raised_same h a b c d hp bp dp e m s top =
    simp (chosen_same h a b c d hp bp dp e m s, rest_same h a b c d hp bp dp e, tiny_same h a b c d bp dp e)

-- settling an overflow
pub settled_rise : (m : Meaning) (s : Bool) (top n n' : ℕ) → n ≤ n' → settled m s top n ≤ settled m s top n'
unfolding settled
settled_rise m s top n n' le =
    ⊎_elim
    (λ (lt : n < top).
    ⊎_elim
    (λ (lt' : n' < top). simp (lt-ltb n top lt, lt-ltb n' top lt') le)
    (λ (ge' : top ≤ n').
    ⊎_elim
    (λ (i : m.infinite s ≡ true). simp (lt-ltb n top lt, le-ltb n' top ge', i) (omega arith))
    (λ (i : m.infinite s ≡ false). simp (lt-ltb n top lt, le-ltb n' top ge', i) (omega arith))
    (cases_Bool (m.infinite s)))
    (cases_lt n' top))
    (λ (ge : top ≤ n). let ge' : top ≤ n' = omega arith in simp (le-ltb n top ge, le-ltb n' top ge') (omega arith))
    (cases_lt n top)

-- the settled size is not above the chosen one nor infinity, and below it only as the greatest finite size
pub record Settled (top n r : ℕ) : Type 0 where
  pub top_le : r ≤ top
  pub chosen_le : r ≤ n
  pub else_greatest : (r ≡ n) ⊎ (top ≤ r + 1)

pub settled_bounds : (m : Meaning) (s : Bool) (top n : ℕ) → Settled top n (settled m s top n)
unfolding settled
settled_bounds m s top n =
    ⊎_elim
    (λ (lt : n < top). simp (lt-ltb n top lt) (record { top_le = omega arith; chosen_le = omega arith; else_greatest = inl refl }))
    (λ (ge : top ≤ n).
    ⊎_elim
    (λ (i : m.infinite s ≡ true). simp (le-ltb n top ge, i) (record { top_le = omega arith; chosen_le = omega arith; else_greatest = inr (omega arith) }))
    (λ (i : m.infinite s ≡ false). simp (le-ltb n top ge, i) (record { top_le = omega arith; chosen_le = omega arith; else_greatest = inr (omega arith) }))
    (cases_Bool (m.infinite s)))
    (cases_lt n top)

pub settled_finite : (m : Meaning) (s : Bool) (top n : ℕ) → n < top → settled m s top n ≡ n
unfolding settled
settled_finite m s top n lt = simp (lt-ltb n top lt)

-- a value that size n has: nothing is left, and it is kept
pub rest_exact : (h a b n : ℕ) → 0 < h → 0 < b → value h n * b ≡ a → (low h a b ≡ n) × (rest h a b ≡ Nothing)
unfolding rest low
rest_exact h a b n hp bp e =
    let l : Low h a b n = record { under = omega arith; over = omega (arith, mul-lt-mul_of_pos_right (value_step h n hp) bp) } in
    let same : place h a b * h + whole h a b ≡ n = low_only h a b (low h a b) n hp bp (low_bounds h a b hp bp) l in
    let t = splits h a b hp bp in
    let v : value h (place h a b * h + whole h a b) ≡ whole h a b * 2 ^ place h a b = value_at h (place h a b) (whole h a b) hp (omega (arith, t.short)) t.full in
    let w : value h n ≡ whole h a b * 2 ^ place h a b = subst (λ (z : ℕ). value h z ≡ whole h a b * 2 ^ place h a b) same v in
    let z : remainder h a b ≡ 0 = omega (arith, t.parts, ap (λ (x : ℕ). x * b) w) in
    (same, kind_nothing (remainder h a b) (unit h a b) z)

pub chosen_exact : (m : Meaning) (s : Bool) (h a b n : ℕ) → Lawful m → 0 < h → 0 < b → value h n * b ≡ a → chosen m s h a b ≡ n
unfolding chosen
chosen_exact m s h a b n law hp bp e =
    let r = rest_exact h a b n hp bp e in
    simp (r.0, r.1, law.exact s (odd (whole h a b))) (omega arith)

pub raised_exact : (m : Meaning) (s : Bool) (h top a b n : ℕ) → Lawful m → 0 < h → 0 < b → value h n * b ≡ a → n < top → raised m s h top a b ≡ 0
unfolding raised
raised_exact m s h top a b n law hp bp e lt =
    simp (chosen_exact m s h a b n law hp bp e, (rest_exact h a b n hp bp e).1, lt-ltb n top lt)

-- tiny values are those whose low has exponent field 0
pub tiny_low : (h a b : ℕ) → 0 < h → 0 < b → ltb a (b * h) ≡ ltb (low h a b) h
tiny_low h a b hp bp =
    let l = low_bounds h a b hp bp in
    let at : value h (0 * h + h) ≡ h * 1 = value_at h 0 h hp (omega arith) (inl refl) in
    let vh : value h h ≡ h = subst (λ (z : ℕ). value h z ≡ h * 1) (let e : 0 * h + h ≡ h = omega arith in e) at ∙ omega arith in
    ⊎_elim
    (λ (lt : low h a b < h).
    let up : value h (low h a b + 1) ≤ value h h = value_le h (low h a b + 1) h hp (omega arith) in
    lt-ltb a (b * h) (omega (arith, l.over, mul-le-mul_right b up, ap (λ (z : ℕ). z * b) vh)) ∙ sym (lt-ltb (low h a b) h lt))
    (λ (ge : h ≤ low h a b).
    let up : value h h ≤ value h (low h a b) = value_le h h (low h a b) hp ge in
    le-ltb a (b * h) (omega (arith, l.under, mul-le-mul_right b up, ap (λ (z : ℕ). z * b) vh)) ∙ sym (le-ltb (low h a b) h ge))
    (cases_lt (low h a b) h)

-- choice and flags from a split of the value
module _ (m : Meaning) (s : Bool) (h a b at units : ℕ) (left : Rest) (pj : place h a b ≡ at) (wu : whole h a b ≡ units) (rl : rest h a b ≡ left) where
  pub low_from : low h a b ≡ at * h + units
  unfolding low
  low_from = simp (pj, wu)

  pub chosen_from : chosen m s h a b ≡ cond (m.grow s (eqb (units % 2) 1) left) 1 0 + (at * h + units)
  unfolding chosen odd
  chosen_from = simp (wu, rl, low_from)

  pub raised_from : (top : ℕ) → 0 < h → 0 < b → raised m s h top a b ≡ cond (ltb (cond (m.grow s (eqb (units % 2) 1) left) 1 0 + (at * h + units)) top) (inexact_flags left (ltb (at * h + units) h)) 20
  unfolding raised
  raised_from top hp bp = simp (chosen_from, rl, tiny_low h a b hp bp, low_from)

  -- what the code has in hand: the chosen size n
  module _ (n top : ℕ) (hp : 0 < h) (bp : 0 < b) (ne : n ≡ cond (m.grow s (eqb (units % 2) 1) left) 1 0 + (at * h + units)) where
    chosen_is : chosen m s h a b ≡ n
    chosen_is = chosen_from ∙ sym ne

    tiny_is : ltb a (b * h) ≡ ltb (at * h + units) h
    tiny_is = tiny_low h a b hp bp ∙ ap (λ (z : ℕ). ltb z h) low_from

    pub finite_answer : n < top → (settled m s top (chosen m s h a b) ≡ n) × (raised m s h top a b ≡ inexact_flags left (ltb (at * h + units) h))
    unfolding raised
    finite_answer lt = (ap (settled m s top) chosen_is ∙ settled_finite m s top n lt, simp (chosen_is, rl, tiny_is, lt-ltb n top lt))

    pub overflow_answer : top ≤ n → (settled m s top (chosen m s h a b) ≡ cond (m.infinite s) top (top - 1)) × (raised m s h top a b ≡ 20)
    unfolding raised settled
    overflow_answer ge = (simp (chosen_is, le-ltb n top ge), simp (chosen_is, le-ltb n top ge))
