-- What a call's answer tells: its refusal, its number, its exact value.
use Rattle.std.proofs.Common.{◌≡◌, ℕ, ◌*◌, ◌^◌, ◌<◌, Bool, true, false, cond, not, ◌&&◌, eqb, length, Some, None, Option, Ok, Result, refl, ap, ◌∙◌, subst, arith, lit<}
use Rattle.std.proofs.lemmas.Bool.{eqb-false, ne_eqb, ltb-true, le-ltb, and_parts, not-true}
use Rattle.std.proofs.lemmas.Nat.{mul-le, pow_pos}
use Rattle.std.proofs.lemmas.Option.{none-some, same_Some, cond_some}
use Rattle.rounding.specs.declared.encoding.Encoding.{Encoding}
use Rattle.rounding.specs.declared.round.Answer.{Answer}
use Rattle.rounding.specs.Format.{binary32, size, is_finite, is_zero}
use Rattle.rounding.specs.Exact.{Exact}
use Rattle.rounding.specs.Rules.{Meaning}
use Rattle.rounding.specs.Rounding.{Outcome, rounded}
use Rattle.arithmetic.specs.Classes.{Tests}
use Rattle.arithmetic.specs.Defined.{quotient_value, square_value, has_quotient}
use Rattle.arithmetic.proofs.Quotients.{quotient_rounds, square_rounds, divisor_pos}
use Rattle.means.specs.Defined.{mean_value, mean_square_value}
use Rattle.meter.specs.declared.call.Call.{Call}
use Rattle.meter.specs.declared.call.Call.TheVariants.{Quotient, Square, Mean, MeanSquare}
use Rattle.meter.specs.declared.fault.MeterFault.{MeterFault}
use Rattle.meter.specs.Model.{Model, refusal}
use Rattle.replay.specs.declared.step.Refusal.{Refusal}
use Rattle.replay.specs.declared.step.Told.{Told}
use Rattle.replay.specs.declared.step.Told.TheVariants.{Number}
use Rattle.replay.specs.Calls.{computed, exact_of, answer_of, accepted, refused, either, told, refused_by}

-- an answer refuses by the fault of its refusal
either_refuses : (o : Option MeterFault) (t : Told) (c : Call) → refused_by (either o t (refused c)) ≡ o
either_refuses None t c = refl
either_refuses (Some fault) t c = refl

pub told_refuses : (m : Meaning) (b : Model) (c : Call) → refused_by (told m b c) ≡ refusal b c
told_refuses m b c = either_refuses (refusal b c) (accepted m b c) c

pub told_accepted : (m : Meaning) (b : Model) (c : Call) → refusal b c ≡ None → told m b c ≡ Ok (accepted m b c)
told_accepted m b c e = ap (λ (o : Option MeterFault). either o (accepted m b c) (refused c)) e

-- an accepted call that computes answers the defined number
pub accepted_number : (m : Meaning) (b : Model) (c : Call) (o : Outcome) → computed m b c ≡ Some o → accepted m b c ≡ Number (answer_of o)
accepted_number m b (Quotient x y) o e = ap (λ (z : Outcome). Number (answer_of z)) (same_Some _ o e)
accepted_number m b (Square x) o e = ap (λ (z : Outcome). Number (answer_of z)) (same_Some _ o e)
accepted_number m b Mean o e = ap (λ (z : Outcome). Number (answer_of z)) (same_Some _ o e)
accepted_number m b MeanSquare o e = ap (λ (z : Outcome). Number (answer_of z)) (same_Some _ o e)
accepted_number m b _ o e = absurd (none-some _ e)

-- a finite encoding, by its tests
finite_tests : (x : ℕ) → is_finite binary32 x ≡ true → Tests x false false true (is_zero binary32 x)
finite_tests x e =
    let lt : size binary32 x < 2139095040 = ltb-true (size binary32 x) 2139095040 e in
    record { nan_is = le-ltb 2139095040 (size binary32 x) (omega arith); infinite_is = ne_eqb (size binary32 x) 2139095040 (λ z. omega arith); finite_is = e; zero_is = refl }

-- what a call with the exact value v does
pub record Rounds (m : Meaning) (b : Model) (c : Call) (v : Exact) : Type 0 where
  pub accepts : refusal b c ≡ None
  pub computes : computed m b c ≡ Some (rounded binary32 m v)
  pub divides : 0 < v.den

cond_none : {A : Type 0} (t : Bool) (x y : A) → cond t None (Some x) ≡ Some y → (t ≡ false) × (x ≡ y)
cond_none false x y e = (refl, same_Some x y e)
cond_none true x y e = absurd (none-some _ e)

quotient_rounds_at : (m : Meaning) (b : Model) (x y : Encoding) (v : Exact) → exact_of b (Quotient x y) ≡ Some v → Rounds m b (Quotient x y) v
quotient_rounds_at m b x y v e =
    let p = cond_some (has_quotient binary32 x.bits y.bits) (quotient_value binary32 x.bits y.bits) v e in
    let q = and_parts (is_finite binary32 x.bits) (is_finite binary32 y.bits && not (is_zero binary32 y.bits)) p.0 in
    let r = and_parts (is_finite binary32 y.bits) (not (is_zero binary32 y.bits)) q.1 in
    let z : is_zero binary32 y.bits ≡ false = not-true (is_zero binary32 y.bits) r.1 in
    let t : Tests y.bits false false true false = subst (λ (k : Bool). Tests y.bits false false true k) z (finite_tests y.bits r.0) in
    subst (Rounds m b (Quotient x y)) p.1
    (record {
      accepts = refl;
      computes = ap Some (quotient_rounds m x.bits y.bits (is_zero binary32 x.bits) (finite_tests x.bits q.0) t);
      divides = divisor_pos y.bits t;
    })

square_rounds_at : (m : Meaning) (b : Model) (x : Encoding) (v : Exact) → exact_of b (Square x) ≡ Some v → Rounds m b (Square x) v
square_rounds_at m b x v e =
    let p = cond_some (is_finite binary32 x.bits) (square_value binary32 x.bits) v e in
    subst (Rounds m b (Square x)) p.1
    (record { accepts = refl; computes = ap Some (square_rounds m x.bits (is_zero binary32 x.bits) (finite_tests x.bits p.0)); divides = lit< tt })

scaled_pos : (n k : ℕ) → eqb n 0 ≡ false → 0 < n * 2 ^ k
scaled_pos n k e = mul-le 1 1 n (2 ^ k) (omega (arith, eqb-false n 0 e)) (pow_pos k)

mean_rounds_at : (m : Meaning) (b : Model) (v : Exact) → exact_of b Mean ≡ Some v → Rounds m b Mean v
mean_rounds_at m b v e =
    let p = cond_none (eqb (length b.replies) 0) (mean_value b.replies) v e in
    subst (Rounds m b Mean) p.1 (record { accepts = simp p.0 refl; computes = refl; divides = scaled_pos (length b.replies) 149 p.0 })

mean_square_rounds_at : (m : Meaning) (b : Model) (v : Exact) → exact_of b MeanSquare ≡ Some v → Rounds m b MeanSquare v
mean_square_rounds_at m b v e =
    let p = cond_none (eqb (length b.replies) 0) (mean_square_value b.replies) v e in
    subst (Rounds m b MeanSquare) p.1 (record { accepts = simp p.0 refl; computes = refl; divides = scaled_pos (length b.replies) 298 p.0 })

pub rounds : (m : Meaning) (b : Model) (c : Call) (v : Exact) → exact_of b c ≡ Some v → Rounds m b c v
rounds m b (Quotient x y) v e = quotient_rounds_at m b x y v e
rounds m b (Square x) v e = square_rounds_at m b x v e
rounds m b Mean v e = mean_rounds_at m b v e
rounds m b MeanSquare v e = mean_square_rounds_at m b v e
rounds m b _ v e = absurd (none-some _ e)

-- so its answer is the rounded exact value
pub told_number : (m : Meaning) (b : Model) (c : Call) (v : Exact) → exact_of b c ≡ Some v → (told m b c ≡ Ok (Number (answer_of (rounded binary32 m v)))) × (0 < v.den)
told_number m b c v e =
    let r = rounds m b c v e in
    (told_accepted m b c r.accepts ∙ ap Ok (accepted_number m b c (rounded binary32 m v) r.computes), r.divides)

pub number_only : (o p : Outcome) → ◌≡◌ {A = Result Told Refusal} (Ok (Number (answer_of o))) (Ok (Number (answer_of p))) → (o.bits ≡ p.bits) × (o.flags ≡ p.flags)
number_only o p e =
    let a : answer_of o ≡ answer_of p = cc in (ap (λ (z : Answer). z.encoding.bits) a, ap (λ (z : Answer). z.flags.number) a)
