-- The whole quotient from an estimate in the band.
use Rattle.std.proofs.Common.{◌≡◌, ℕ, ◌+◌, ◌-◌, ◌*◌, ◌/◌, ◌<◌, ◌≤◌, Bool, true, false, cond, MatchBool, sym, subst, inl, inr, mul-le-mul_right, mul-le-mul_left, arith}
use native.Mathlib.Nat.{div-eq_of_lt-le}
use Rattle.std.proofs.lemmas.Bool.{cases_lt}
use Rattle.engines.specs.Band.{Band}

-- a band is never empty of meaning: its divisor is not 0
positive : (d n v : ℕ) → Band d n v → 0 < d
positive d n v (lo, hi) =
    elim (cases_lt 0 d) [ inl h ↦ h | inr h ↦ omega (arith, mul-le-mul_left v h) ]

-- one above the quotient, k + 1
below : (d n v k : ℕ) → Band d n v → v / 64 ≡ k + 1 → n < (k + 1) * d → n / d ≡ k
below d n v k (lo, hi) e over =
    let m : 64 * (k + 1) ≤ v = omega arith in
    let p = mul-le-mul_right d m in
    div-eq_of_lt-le d (omega arith) over

lowered : (d n v : ℕ) → Band d n v → n < v / 64 * d → v / 64 - 1 ≡ n / d
lowered d n v band over =
    let some : 0 < v / 64 = elim (cases_lt 0 (v / 64)) [ inl h ↦ h | inr h ↦ omega (arith, mul-le-mul_right d h) ] in
    let e : v / 64 ≡ v / 64 - 1 + 1 = omega arith in
    sym (below d n v (v / 64 - 1) band e (subst (λ (z : ℕ). n < z * d) e over))

kept : (d n v : ℕ) → Band d n v → v / 64 * d ≤ n → v / 64 ≡ n / d
kept d n v (lo, hi) under =
    let k : v + 1 ≤ 64 * (v / 64) + 64 = omega arith in
    let m = mul-le-mul_right d k in
    let p = positive d n v (lo, hi) in
    sym (div-eq_of_lt-le d under (omega arith))

pub lowered_by : (b : Bool) (d n v : ℕ) → MatchBool b (Band d n v) (v ≡ 0) → n < v / 64 * d → v / 64 - 1 ≡ cond b (n / d) 0
lowered_by true d n v e over = lowered d n v e over
lowered_by false d n v e over =
    let z : v / 64 ≤ 0 = omega arith in
    omega (arith, mul-le-mul_right d z)

pub kept_by : (b : Bool) (d n v : ℕ) → MatchBool b (Band d n v) (v ≡ 0) → v / 64 * d ≤ n → v / 64 ≡ cond b (n / d) 0
kept_by true d n v e under = kept d n v e under
kept_by false d n v e under = omega arith
