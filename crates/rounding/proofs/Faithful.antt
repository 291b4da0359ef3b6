-- The laws of rounding, over every format and every lawful rule.
use Rattle.std.proofs.Common.{◌≡◌, ℕ, ◌+◌, ◌*◌, ◌^◌, ◌<◌, ◌≤◌, Bool, true, false, cond, eqb, sym, refl, ap, ◌∙◌, subst, ⊎_elim, mul-le-mul_right, mod-eq_of_lt, lt_of_mul-lt-mul_right, mul-lt-mul_of_pos_right, arith}
use Rattle.std.proofs.lemmas.Bool.{cases_lt, cases_eq, eq-eqb, ne_eqb, le-leb, lt-leb, ltb-false}
use Rattle.std.proofs.lemmas.Nat.{pow_pos, mul-le, mod-mul-add}
use Rattle.rounding.specs.Format.{Format, infinity, sign_weight, negative, size, joined, value, is_nan}
use Rattle.rounding.specs.Exact.{Exact, LessSigned, Less, Same, Between, worth}
use Rattle.rounding.specs.Rules.{Meaning, Lawful}
use Rattle.rounding.specs.Rounding.{Outcome, low, chosen, settled, raised, rounded, rounded_size}
use Rattle.rounding.specs.Laws.{Proper, KeepsValues, Neighbours, SameAnswers, RisingAnswers}
use Rattle.rounding.proofs.Values.{value_le, size_lt, value_low}
use Rattle.rounding.proofs.Places.{low_bounds}
use Rattle.rounding.proofs.Chosen.{chosen_bounds, chosen_rise, chosen_same, raised_same, settled_rise, settled_bounds, settled_finite, chosen_exact, raised_exact}

-- what a size is worth without its sign: num_of / den_of
abbrev num_of : Format → ℕ → ℕ
num_of f n = cond (eqb n (infinity f)) 1 (value f.hidden n)

abbrev den_of : Format → ℕ → ℕ
den_of f n = cond (eqb n (infinity f)) 0 (2 ^ f.scale)

-- an infinity is 1 / 0, and any lesser size its value
of_infinity : (f : Format) (n : ℕ) → n ≡ infinity f → (num_of f n ≡ 1) × (den_of f n ≡ 0)
of_infinity f n e = simp (eq-eqb n (infinity f) e) (refl, refl)

of_finite : (f : Format) (n : ℕ) → n < infinity f → (num_of f n ≡ value f.hidden n) × (den_of f n ≡ 2 ^ f.scale)
of_finite f n lt = let ne : n ≡ infinity f → ⊥ = λ e. omega arith in simp (ne_eqb n (infinity f) ne) (refl, refl)

-- sign and size of an encoding that was joined of them
joined_negative : (f : Format) (s : Bool) (n : ℕ) → n < sign_weight f → negative f (joined f s n) ≡ s
joined_negative f true n lt = le-leb (sign_weight f) (sign_weight f + n) (omega arith)
joined_negative f false n lt = lt-leb (sign_weight f) (0 + n) (omega arith)

joined_size : (f : Format) (s : Bool) (n : ℕ) → n < sign_weight f → size f (joined f s n) ≡ n
joined_size f true n lt = let e : sign_weight f + n ≡ 1 * sign_weight f + n = omega arith in rw e (mod-mul-add 1 (sign_weight f) n lt)
joined_size f false n lt = let e : 0 + n ≡ n = omega arith in rw e (mod-eq_of_lt lt)

abbrev valued : Format → Bool → ℕ → Exact
valued f s n = record { negative = s; num = num_of f n; den = den_of f n }

worth_joined : (f : Format) (s : Bool) (n : ℕ) → 0 < f.hidden → n ≤ infinity f → worth f (joined f s n) ≡ valued f s n
worth_joined f s n hp le =
    let lt : n < sign_weight f = omega arith in
    simp (joined_negative f s n lt, joined_size f s n lt)

-- cross products of two sizes order them
sizes_lt : (f : Format) (n n' : ℕ) → 0 < f.hidden → n ≤ infinity f → n' ≤ infinity f → num_of f n * den_of f n' < num_of f n' * den_of f n → n < n'
sizes_lt f n n' hp le le' lt =
    ⊎_elim
    (λ (fin : n < infinity f).
    ⊎_elim
    (λ (fin' : n' < infinity f).
    let p = of_finite f n fin in
    let p' = of_finite f n' fin' in
    let q : value f.hidden n * 2 ^ f.scale < value f.hidden n' * 2 ^ f.scale = simp (p.0, p.1, p'.0, p'.1) at lt in
    size_lt f.hidden n n' hp (lt_of_mul-lt-mul_right (2 ^ f.scale) q))
    (λ (inf' : infinity f ≤ n'). omega arith)
    (cases_lt n' (infinity f)))
    (λ (inf : infinity f ≤ n).
    let e : n ≡ infinity f = omega arith in
    let p = of_infinity f n e in
    let q : 1 * den_of f n' < num_of f n' * 0 = simp (p.0, p.1) at lt in
    absurd (omega arith))
    (cases_lt n (infinity f))

-- a size against a value a / b: in units of the smallest subnormal
below_value : (f : Format) (n a b : ℕ) → n ≤ infinity f → num_of f n * b < a * den_of f n → (n < infinity f) × (value f.hidden n * b < a * 2 ^ f.scale)
below_value f n a b le lt =
    ⊎_elim
    (λ (fin : n < infinity f). let p = of_finite f n fin in (fin, simp (p.0, p.1) at lt))
    (λ (inf : infinity f ≤ n).
    let e : n ≡ infinity f = omega arith in
    let p = of_infinity f n e in
    let q : 1 * b < a * 0 = simp (p.0, p.1) at lt in
    absurd (omega arith))
    (cases_lt n (infinity f))

above_value : (f : Format) (n a b : ℕ) → n < infinity f → a * den_of f n < num_of f n * b → a * 2 ^ f.scale < value f.hidden n * b
above_value f n a b fin lt = let p = of_finite f n fin in simp (p.0, p.1) at lt

-- the rounded size, by its neighbours: nothing lies between
module _ (f : Format) (m : Meaning) (s : Bool) (a b n : ℕ) (hp : 0 < f.hidden) (bp : 0 < b) (le : n ≤ infinity f) where
  -- a * 2^scale / b in units; n stands between the answer and it from below
  none_below : num_of f (settled m s (infinity f) (chosen m s f.hidden (a * 2 ^ f.scale) b)) * den_of f n < num_of f n * den_of f (settled m s (infinity f) (chosen m s f.hidden (a * 2 ^ f.scale) b)) → num_of f n * b < a * den_of f n → ⊥
  none_below over under =
      let h : ℕ = f.hidden in
      let c : ℕ = chosen m s h (a * 2 ^ f.scale) b in
      let t = settled_bounds m s (infinity f) c in
      let lt : settled m s (infinity f) c < n = sizes_lt f (settled m s (infinity f) c) n hp t.top_le le over in
      let v = below_value f n a b le under in
      let l = low_bounds h (a * 2 ^ f.scale) b hp bp in
      let near : n ≤ low h (a * 2 ^ f.scale) b =
      ⊎_elim
      (λ (far : low h (a * 2 ^ f.scale) b < n).
      absurd
      (let up : value h (low h (a * 2 ^ f.scale) b + 1) ≤ value h n = value_le h (low h (a * 2 ^ f.scale) b + 1) n hp (omega arith) in
      omega (arith, mul-le-mul_right b up, l.over, v.1)))
      (λ z. z)
      (cases_lt (low h (a * 2 ^ f.scale) b) n) in
      ⊎_elim
      (λ (same : settled m s (infinity f) c ≡ c). omega (arith, (chosen_bounds m s h (a * 2 ^ f.scale) b).0))
      (λ (great : infinity f ≤ settled m s (infinity f) c + 1). omega (arith, v.0))
      t.else_greatest

  none_above : num_of f n * den_of f (settled m s (infinity f) (chosen m s f.hidden (a * 2 ^ f.scale) b)) < num_of f (settled m s (infinity f) (chosen m s f.hidden (a * 2 ^ f.scale) b)) * den_of f n → a * den_of f n < num_of f n * b → ⊥
  none_above under over =
      let h : ℕ = f.hidden in
      let c : ℕ = chosen m s h (a * 2 ^ f.scale) b in
      let t = settled_bounds m s (infinity f) c in
      let lt : n < settled m s (infinity f) c = sizes_lt f n (settled m s (infinity f) c) hp le t.top_le under in
      let fin : n < infinity f = omega (arith, t.top_le) in
      let v = above_value f n a b fin over in
      let l = low_bounds h (a * 2 ^ f.scale) b hp bp in
      ⊎_elim
      (λ (far : low h (a * 2 ^ f.scale) b < n). omega (arith, t.chosen_le, (chosen_bounds m s h (a * 2 ^ f.scale) b).1))
      (λ (near : n ≤ low h (a * 2 ^ f.scale) b).
      let up : value h n ≤ value h (low h (a * 2 ^ f.scale) b) = value_le h n (low h (a * 2 ^ f.scale) b) hp near in
      omega (arith, mul-le-mul_right b up, l.under))
      (cases_lt (low h (a * 2 ^ f.scale) b) n)

-- an encoding that is no NaN has a size up to infinity
valued_size : (f : Format) (y : ℕ) → is_nan f y ≡ false → size f y ≤ infinity f
valued_size f y e = ltb-false (infinity f) (size f y) e

no_between : (f : Format) (m : Meaning) (s t : Bool) (a b n : ℕ) → 0 < f.hidden → 0 < b → n ≤ infinity f → Between (valued f t n) (valued f s (settled m s (infinity f) (chosen m s f.hidden (a * 2 ^ f.scale) b))) (record { negative = s; num = a; den = b }) → ⊥
no_between f m false false a b n hp bp le w =
    ⊎_elim (λ p. none_below f m false a b n hp bp le p.0 p.1) (λ p. none_above f m false a b n hp bp le p.1 p.0) w
no_between f m true true a b n hp bp le w =
    ⊎_elim (λ p. none_above f m true a b n hp bp le p.0 p.1) (λ p. none_below f m true a b n hp bp le p.1 p.0) w
no_between f m false true a b n hp bp le w = ⊎_elim (λ p. p.0) (λ p. p.0) w
no_between f m true false a b n hp bp le w = ⊎_elim (λ p. p.1) (λ p. p.1) w

pub neighbours : Neighbours
neighbours f m v y proper law dp ok w =
    let r : ℕ = rounded_size f m v in
    let t = settled_bounds m v.negative (infinity f) (chosen m v.negative f.hidden (v.num * 2 ^ f.scale) v.den) in
    no_between f m v.negative (negative f y) v.num v.den (size f y) proper.0 dp (valued_size f y ok.1)
    (subst (λ (e : Exact). Between (worth f y) e v) (worth_joined f v.negative r proper.0 t.top_le) w)

-- two values of which neither is less, not both zero, have one sign and equal cross products
same_parts : (s t : Bool) (a b c d : ℕ) → 0 < a + c → (LessSigned s t a b c d → ⊥) → (LessSigned t s c d a b → ⊥) → (s ≡ t) × (a * d ≡ c * b)
same_parts false false a b c d some p q = (refl, omega arith)
same_parts true true a b c d some p q = (refl, omega arith)
same_parts true false a b c d some p q = absurd (p some)
same_parts false true a b c d some p q = absurd (q (omega arith))

-- equal cross products under one sign: neither is less
level : (s : Bool) (a b c d : ℕ) → a * d ≡ c * b → Same (record { negative = s; num = a; den = b }) (record { negative = s; num = c; den = d })
level false a b c d e = (λ l. omega arith, λ l. omega arith)
level true a b c d e = (λ l. omega arith, λ l. omega arith)

-- a value that the finite size n has: the answer is n
kept : (f : Format) (m : Meaning) (v : Exact) (n : ℕ) → Proper f → Lawful m → 0 < v.den → n < infinity f → value f.hidden n * v.den ≡ v.num * 2 ^ f.scale → Same (worth f (rounded f m v).bits) v
kept f m v n proper law dp fin e =
    let c : chosen m v.negative f.hidden (v.num * 2 ^ f.scale) v.den ≡ n = chosen_exact m v.negative f.hidden (v.num * 2 ^ f.scale) v.den n law proper.0 dp e in
    let r : rounded_size f m v ≡ n = ap (settled m v.negative (infinity f)) c ∙ settled_finite m v.negative (infinity f) n fin in
    let p = of_finite f n fin in
    let w : worth f (joined f v.negative n) ≡ valued f v.negative n = worth_joined f v.negative n proper.0 (omega arith) in
    let cross : num_of f n * v.den ≡ v.num * den_of f n = simp (p.0, p.1) e in
    let S : Exact → Type 0 = λ x. Same x v in
    subst (λ (z : ℕ). S (worth f (joined f v.negative z))) (sym r)
    (subst S (sym w) (level v.negative (num_of f n) (den_of f n) v.num v.den cross))

pub keeps_values : KeepsValues
keeps_values f m v y proper law dp ok same =
    ⊎_elim
    (λ (z : v.num ≡ 0).
    let top : 1 * 1 ≤ f.special * f.hidden = mul-le 1 1 f.special f.hidden proper.1 proper.0 in
    kept f m v 0 proper law dp (omega arith)
    (omega (arith, ap (λ (x : ℕ). x * v.den) (value_low f.hidden 0 proper.0), ap (λ (x : ℕ). x * 2 ^ f.scale) z)))
    (λ (nz : v.num ≡ 0 → ⊥).
    let n : ℕ = size f y in
    let le : n ≤ infinity f = valued_size f y ok.1 in
    let q = same_parts (negative f y) v.negative (num_of f n) (den_of f n) v.num v.den (omega arith) same.0 same.1 in
    ⊎_elim
    (λ (fin : n < infinity f). let p = of_finite f n fin in kept f m v n proper law dp fin (simp (p.0, p.1) at q.1))
    (λ (inf : infinity f ≤ n).
    let i = of_infinity f n (let t : n ≡ infinity f = omega arith in t) in
    let x : 1 * v.den ≡ v.num * 0 = simp (i.0, i.1) at q.1 in
    absurd (omega arith))
    (cases_lt n (infinity f)))
    (cases_eq v.num 0)

outcome : (f : Format) (s t : Bool) (x y k l : ℕ) → s ≡ t → x ≡ y → k ≡ l → ◌≡◌ {A = Outcome} (record { bits = joined f s x; flags = k }) (record { bits = joined f t y; flags = l })
outcome f s t x y k l p q r = simp (p, q, r)

pub same_answers : SameAnswers
same_answers f m v w proper dp ep some same =
    let q = same_parts v.negative w.negative v.num v.den w.num w.den (omega arith) same.0 same.1 in
    let k : ℕ = 2 ^ f.scale in
    let e : v.num * k * w.den ≡ w.num * k * v.den = omega (arith, ap (λ (z : ℕ). z * k) q.1) in
    let top : ℕ = infinity f in
    let c : chosen m v.negative f.hidden (v.num * k) v.den ≡ chosen m w.negative f.hidden (w.num * k) w.den =
    subst (λ (s : Bool). chosen m v.negative f.hidden (v.num * k) v.den ≡ chosen m s f.hidden (w.num * k) w.den) q.0
    (chosen_same f.hidden (v.num * k) v.den (w.num * k) w.den proper.0 dp ep e m v.negative) in
    let r : raised m v.negative f.hidden top (v.num * k) v.den ≡ raised m w.negative f.hidden top (w.num * k) w.den =
    subst (λ (s : Bool). raised m v.negative f.hidden top (v.num * k) v.den ≡ raised m s f.hidden top (w.num * k) w.den) q.0
    (raised_same f.hidden (v.num * k) v.den (w.num * k) w.den proper.0 dp ep e m v.negative top) in
    let z : settled m v.negative top (chosen m v.negative f.hidden (v.num * k) v.den) ≡ settled m w.negative top (chosen m w.negative f.hidden (w.num * k) w.den) =
    subst (λ (s : Bool). settled m v.negative top (chosen m v.negative f.hidden (v.num * k) v.den) ≡ settled m s top (chosen m w.negative f.hidden (w.num * k) w.den)) q.0
    (ap (settled m v.negative top) c) in
    outcome f v.negative w.negative (rounded_size f m v) (rounded_size f m w) (rounded f m v).flags (rounded f m w).flags q.0 z r

-- a lesser size without sign, rounded, is not the greater
sizes_rise : (f : Format) (m : Meaning) (s : Bool) (a b c d : ℕ) → 0 < f.hidden → Lawful m → 0 < b → 0 < d → a * d < c * b → settled m s (infinity f) (chosen m s f.hidden (a * 2 ^ f.scale) b) ≤ settled m s (infinity f) (chosen m s f.hidden (c * 2 ^ f.scale) d)
sizes_rise f m s a b c d hp law bp dp lt =
    let k : ℕ = 2 ^ f.scale in
    settled_rise m s (infinity f) (chosen m s f.hidden (a * k) b) (chosen m s f.hidden (c * k) d)
    (chosen_rise f.hidden (a * k) b (c * k) d hp bp dp m s law (omega (arith, mul-lt-mul_of_pos_right lt (pow_pos f.scale))))

rise : (f : Format) (m : Meaning) (s t : Bool) (a b c d : ℕ) → 0 < f.hidden → Lawful m → 0 < b → 0 < d → LessSigned s t a b c d → Less (valued f t (settled m t (infinity f) (chosen m t f.hidden (c * 2 ^ f.scale) d))) (valued f s (settled m s (infinity f) (chosen m s f.hidden (a * 2 ^ f.scale) b))) → ⊥
rise f m false false a b c d hp law bp dp lt back =
    let x : ℕ = settled m false (infinity f) (chosen m false f.hidden (a * 2 ^ f.scale) b) in
    let y : ℕ = settled m false (infinity f) (chosen m false f.hidden (c * 2 ^ f.scale) d) in
    let xs = settled_bounds m false (infinity f) (chosen m false f.hidden (a * 2 ^ f.scale) b) in
    let ys = settled_bounds m false (infinity f) (chosen m false f.hidden (c * 2 ^ f.scale) d) in
    omega (arith, sizes_rise f m false a b c d hp law bp dp lt, sizes_lt f y x hp ys.top_le xs.top_le back)
rise f m true true a b c d hp law bp dp lt back =
    let x : ℕ = settled m true (infinity f) (chosen m true f.hidden (a * 2 ^ f.scale) b) in
    let y : ℕ = settled m true (infinity f) (chosen m true f.hidden (c * 2 ^ f.scale) d) in
    let xs = settled_bounds m true (infinity f) (chosen m true f.hidden (a * 2 ^ f.scale) b) in
    let ys = settled_bounds m true (infinity f) (chosen m true f.hidden (c * 2 ^ f.scale) d) in
    omega (arith, sizes_rise f m true c d a b hp law dp bp lt, sizes_lt f x y hp xs.top_le ys.top_le back)
rise f m true false a b c d hp law bp dp lt back = back
rise f m false true a b c d hp law bp dp lt back = lt

pub rising_answers : RisingAnswers
rising_answers f m v w proper law dp ep lt back =
    let vs = settled_bounds m v.negative (infinity f) (chosen m v.negative f.hidden (v.num * 2 ^ f.scale) v.den) in
    let ws = settled_bounds m w.negative (infinity f) (chosen m w.negative f.hidden (w.num * 2 ^ f.scale) w.den) in
    let p = worth_joined f v.negative (rounded_size f m v) proper.0 vs.top_le in
    let q = worth_joined f w.negative (rounded_size f m w) proper.0 ws.top_le in
    rise f m v.negative w.negative v.num v.den w.num w.den proper.0 law dp ep lt
    (subst (λ (x : Exact). Less x (valued f v.negative (rounded_size f m v))) q (subst (λ (x : Exact). Less (worth f (joined f w.negative (rounded_size f m w))) x) p back))

-- an exact zero keeps its sign and raises nothing
pub rounded_zero : (f : Format) (m : Meaning) (v : Exact) → Proper f → Lawful m → 0 < v.den → v.num ≡ 0 → rounded f m v ≡ record { bits = joined f v.negative 0; flags = 0 }
rounded_zero f m v proper law dp z =
    let top : 1 * 1 ≤ f.special * f.hidden = mul-le 1 1 f.special f.hidden proper.1 proper.0 in
    let some : 0 < infinity f = omega arith in
    let e : value f.hidden 0 * v.den ≡ v.num * 2 ^ f.scale =
    omega (arith, ap (λ (x : ℕ). x * v.den) (value_low f.hidden 0 proper.0), ap (λ (x : ℕ). x * 2 ^ f.scale) z) in
    let c = chosen_exact m v.negative f.hidden (v.num * 2 ^ f.scale) v.den 0 law proper.0 dp e in
    outcome f v.negative v.negative (rounded_size f m v) 0 (rounded f m v).flags 0 refl
    (ap (settled m v.negative (infinity f)) c ∙ settled_finite m v.negative (infinity f) 0 some)
    (raised_exact m v.negative f.hidden (infinity f) (v.num * 2 ^ f.scale) v.den 0 law proper.0 dp e some)
