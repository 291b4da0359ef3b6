-- A truncated value, cut at its place: place, whole units and rest are the defined ones.
use Rattle.std.proofs.Common.{◌≡◌, ℕ, ◌+◌, ◌-◌, ◌*◌, ◌^◌, ◌<◌, ◌≤◌, Bool, true, false, cond, ◌||◌, ltb, ◌⊎◌, sym, ap, ◌∙◌, subst, inl, inr, ⊎_elim, arith}
use Rattle.std.proofs.lemmas.Bool.{cases_eq, lt-ltb, le-ltb}
use Rattle.std.proofs.lemmas.Nat.{pow_pos, pow-add}
use Rattle.rounding.specs.Rounding.{place, whole, unit, rest, kind}
use Rattle.rounding.specs.Truncation.{Near, Cut, rest_of}
use Rattle.rounding.proofs.Values.{pow_next}
use Rattle.rounding.proofs.Places.{Split, split_only}
use Rattle.rounding.proofs.RestKinds.{kind_nothing, kind_under, kind_half, kind_over}
use Rattle.rounding.proofs.Cuts.{kept_short, kept_full, left_over, left_parts, left_below, left_even, left_odd}

-- the kind of what is left, from the half bit and whether anything lies below it
left_kind : (half : Bool) (t rho r u : ℕ) → 0 < u
    → (t ≡ 0 → rho ≡ 0 → 2 * r ≡ cond {A = ℕ} half 1 0 * u)
    → (0 < t + rho → (cond {A = ℕ} half 1 0 * u < 2 * r) × (2 * r < (cond {A = ℕ} half 1 0 + 1) * u))
    → kind r u ≡ rest_of half (ltb 0 t || ltb 0 rho)
left_kind half t rho r u up even some =
    ⊎_elim
    (λ (tz : t ≡ 0).
    ⊎_elim
    (λ (rz : rho ≡ 0). simp (le-ltb 0 t (omega arith), le-ltb 0 rho (omega arith)) (none half (even tz rz)))
    (λ (rn : rho ≡ 0 → ⊥). simp (le-ltb 0 t (omega arith), lt-ltb 0 rho (omega arith)) (any half (some (omega arith))))
    (cases_eq rho 0))
    (λ (tn : t ≡ 0 → ⊥). simp (lt-ltb 0 t (omega arith)) (any half (some (omega arith))))
    (cases_eq t 0)
  where
    none : (b : Bool) → 2 * r ≡ cond {A = ℕ} b 1 0 * u → kind r u ≡ rest_of b false
    none true e = kind_half r u (omega arith) (omega arith)
    none false e = kind_nothing r u (omega arith)

    any : (b : Bool) → (cond {A = ℕ} b 1 0 * u < 2 * r) × (2 * r < (cond {A = ℕ} b 1 0 + 1) * u) → kind r u ≡ rest_of b true
    any true p = kind_over r u (omega (arith, p.0)) (omega (arith, p.0))
    any false p = kind_under r u (omega (arith, p.0)) (omega (arith, p.1))

bit_le : (b : Bool) → cond {A = ℕ} b 1 0 ≤ 1
bit_le true = omega arith
bit_le false = omega arith

-- K and X stand for 2^256 and 2^scale, which no tactic should compute
near_at : (h q K X a b j k kept rho t : ℕ) (half : Bool) → 0 < h → 0 < b → 0 < K → 0 < X
    → 2 ^ j * K ≡ X * (2 * 2 ^ k)
    → q * (b * X) + rho ≡ a * K → rho < b * X
    → (2 * kept + cond half 1 0) * 2 ^ k + t ≡ q → t < 2 ^ k
    → kept < 2 * h → (j ≡ 0) ⊎ (h ≤ kept)
    → (place h a b ≡ j) × (whole h a b ≡ kept) × (rest h a b ≡ rest_of half (ltb 0 t || ltb 0 rho))
unfolding rest unit
near_at h q K X a b j k kept rho t half hp bp Kp Xp scaled parts below cuts small short full =
    let J : ℕ = 2 ^ j in
    let P : ℕ = 2 ^ k in
    let n : ℕ = cond half 1 0 in
    let o : cond {A = ℕ} half 1 0 ≤ 1 = bit_le half in
    let r : ℕ = left_over q a b K X J P rho kept n t bp Kp Xp (pow_pos k) scaled parts below cuts small o in
    let lt : r < b * J = left_below q a b K X J P rho kept n t bp Kp Xp (pow_pos k) scaled parts below cuts small o in
    let s : Split h a b j kept r =
    record { parts = left_parts q a b K X J P rho kept n t bp Kp Xp (pow_pos k) scaled parts below cuts small o; left = lt; short = short; full = full } in
    let e = split_only h a b j kept r hp bp s in
    let g : kind r (b * J) ≡ rest_of half (ltb 0 t || ltb 0 rho) =
    left_kind half t rho r (b * J) (omega arith)
    (left_even q a b K X J P rho kept n t bp Kp Xp (pow_pos k) scaled parts below cuts small o)
    (left_odd q a b K X J P rho kept n t bp Kp Xp (pow_pos k) scaled parts below cuts small o) in
    (e.0, e.1, ap (λ (z : ℕ). kind z (b * 2 ^ place h a b)) e.2 ∙ ap (λ (z : ℕ). kind r (b * 2 ^ z)) e.0 ∙ g)

-- the two powers, where the place, the scale and the dropped bits fit together
powers : (j x k bias : ℕ) → j + bias ≡ x + (k + 1) → 2 ^ j * 2 ^ bias ≡ 2 ^ x * (2 * 2 ^ k)
powers j x k bias e =
    sym (pow-add 2 j bias) ∙ ap (λ (z : ℕ). 2 ^ z) e ∙ pow-add 2 x (k + 1) ∙ ap (λ (z : ℕ). 2 ^ x * z) (pow_next k)

pub near_split : (h q x : ℕ) (cut : Bool) (a b j k kept : ℕ) (half more : Bool) → 0 < h → 0 < b
    → Near q x cut a b → Cut q k kept half more → j + 256 ≡ x + (k + 1)
    → kept < 2 * h → (j ≡ 0) ⊎ (h ≤ kept)
    → (place h a b ≡ j) × (whole h a b ≡ kept) × (rest h a b ≡ rest_of half (more || cut))
near_split h q x cut a b j k kept half more hp bp near c e short full =
    let p = near_at h q (2 ^ 256) (2 ^ x) a b j k kept near.more c.tail half hp bp (pow_pos 256) (pow_pos x) (powers j x k 256 e) near.parts near.below c.parts c.below short full in
    (p.0, p.1, simp (c.told, near.told) p.2)

-- what the code's place and number of dropped bits make of a quotient of l bits
pub placed : (q x l at kept : ℕ) (half more : Bool) → 25 ≤ l → 2 ^ (l - 1) ≤ q → q < 2 ^ l → at ≡ l + x - 280
    → Cut q (at + 256 - x - 1) kept half more
    → (kept < 16777216) × ((at ≡ 0) ⊎ (8388608 ≤ kept)) × (at + 256 ≡ x + ((at + 256 - x - 1) + 1))
placed q x l at kept half more long ge lt e c =
    let k : ℕ = at + 256 - x - 1 in
    let fits : at + 256 ≡ x + ((at + 256 - x - 1) + 1) = omega arith in
    let short : kept < 16777216 = kept_short q k kept half more c l lt (omega arith) in
    let full : (at ≡ 0) ⊎ (8388608 ≤ kept) =
    ⊎_elim (λ z. inl z)
    (λ (nz : at ≡ 0 → ⊥). let d : l - 1 ≡ k + 24 = omega arith in inr (kept_full q k kept half more c (subst (λ (z : ℕ). 2 ^ z ≤ q) d ge)))
    (cases_eq at 0) in
    (short, full, fits)

pub near_like : (q x : ℕ) (cut : Bool) (q' x' : ℕ) (cut' : Bool) (a b : ℕ) → q ≡ q' → x ≡ x' → cut ≡ cut' → Near q' x' cut' a b → Near q x cut a b
near_like q x cut q' x' cut' a b p r s n =
    subst (λ (z : ℕ). Near z x cut a b) (sym p) (subst (λ (z : ℕ). Near q' z cut a b) (sym r) (subst (λ (z : Bool). Near q' x' z a b) (sym s) n))
