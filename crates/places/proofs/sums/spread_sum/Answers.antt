use Rattle.std.proofs.Common.{◌≡◌, ℕ, ◌+◌, ◌-◌, ◌*◌, ◌^◌, ◌<◌, length, IfSome, sym, subst, below_more, ap, ◌∙◌, arith, rules}
use Rattle.std.specs.List.{slice_get}
use Rattle.places.specs.Digits.{bits_value}
use Rattle.places.specs.Spread.{spread, taken}
use Rattle.places.proofs.Binary.{carrying_first, carrying_more, carrying_out, value_none, none_above_more}
use Rattle.places.proofs.Spreading.{spread_one, spread_more, spread_past, spread_fits, taken_past, last_place, place_within}
use Rattle.places.proofs.sums.spread_sum.Goals as goal

pub loop-field-init : goal.loop-field-init
loop-field-init g c =
    let w : ℕ → ℕ = taken g.W.Word.worth c.args.words.now in
    let e : g.row.STEP * 0 ≡ 0 = omega arith in
    record {
      carrying = rw (e, spread_one g.row.STEP w, c.taken-carry.ensures.value) (carrying_first 576 (w 0));
      above = rw e (value_none 576);
      each = λ k lt. let z : k ≡ 0 = omega arith in rw z (omega (arith, c.taken-carry.ensures.value), c.taken-carry.ensures.fair);
    }

pub loop-field-preserved : goal.loop-field-preserved
loop-field-preserved g c =
    let w : ℕ → ℕ = taken g.W.Word.worth c.args.words.now in
    let f : ℕ = c.loop-field.field in
    let n : ℕ = g.row.STEP in
    let within = place_within n f c.requires.step.0 c.requires.step.1 (omega arith) in
    let long : length c.carried-next.result.digits ≡ n = search rules in
    let out = ap (λ xs. bits_value xs + c.carried-next.result.carry * 2 ^ n) c.copy_from_slice.ensures.after ∙ c.carried-next.ensures ∙ ap (λ (z : ℕ). c.loop-field.carry + z) c.taken.ensures.value in
    record {
      carrying =
          rw (spread_more n w f)
          (carrying_more 576 c.loop-field.digits c.copy_from_slice.new.self (n * f) (n * (f + 1)) _ n c.loop-field.carry (spread n w (f + 1)) c.carried-next.result.carry (w (f + 1)) c.loop-field.invariant.carrying (omega arith) (ap length c.copy_from_slice.ensures.after ∙ long) (omega arith) (omega arith) out);
      above = none_above_more c.loop-field.digits _ (n * f) (n * (f + 1)) _ n (omega (arith, c.loop-field.invariant.carrying.0)) (ap length c.copy_from_slice.ensures.after ∙ long) (omega arith) (omega arith) c.loop-field.invariant.above;
      each = below_more (λ (k : ℕ). (w k < 2 ^ 64) × IfSome (slice_get c.args.words.now k) g.W.Word.fair) (f + 1) c.loop-field.invariant.each (omega (arith, c.taken.ensures.value), c.taken.ensures.fair);
    }

pub returns : goal.returns
returns g c =
    let w : ℕ → ℕ = taken g.W.Word.worth c.args.words.now in
    let n : ℕ = g.row.STEP in
    let end = last_place n c.loop-field.field c.requires.step.0 c.requires.step.1 (omega arith) in
    let all : spread n w (c.loop-field.field + 1) ≡ spread n w 255 =
    ap (spread n w) (omega arith) ∙ spread_past n w 255 (λ k past. taken_past g.W.Word.worth c.args.words.now k (omega arith)) (c.loop-field.field + 1 - 255) in
    let each = c.loop-field.invariant.each in
    let fits = subst (λ (p : ℕ). spread n w 255 < 2 ^ p) (sym end.0) (spread_fits n w c.requires.step.0 (λ k lt. (each k (omega arith)).0)) in
    record {
      sum = carrying_out 576 c.loop-field.digits (n * c.loop-field.field) c.loop-field.carry (spread n w 255) (rw all at c.loop-field.invariant.carrying) c.loop-field.invariant.above fits;
      each = λ k lt. each k (omega arith);
    }
