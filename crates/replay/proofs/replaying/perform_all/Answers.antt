use Rattle.std.proofs.Common.{◌≡◌, ℕ, ◌<◌, ◌≤◌, List, ◌∷◌, length, drop, min, Some, sym, refl, ap, ◌∙◌, subst, arith, length-drop}
use Rattle.std.proofs.lemmas.List.{drop_more, set-get_or}
use Rattle.std.proofs.lemmas.Option.{slice_get-get_or}
use Rattle.std.specs.List.{slice_get}
use Rattle.std.specs.Slice.Iter.{iter_rest}
use Rattle.rounding.specs.Rules.{Meaning}
use Rattle.meter.specs.declared.call.Call.{Call}
use Rattle.replay.specs.declared.step.Step.{Step}
use Rattle.replay.specs.Runs.{Right, Written}
use Rattle.replay.proofs.Writing.{progress_none, progress_more, progress_all}
use Rattle.replay.proofs.replaying.perform_all.Goals as goal

pub loop-slot-init : goal.loop-slot-init
loop-slot-init g c =
    record {
      so_far = progress_none (g.R.Rule.meaning c.args.meter.now.rule) (g.E.Engine.logged c.args.meter.now.engine) c.args.meter.now.model c.args.calls.now c.args.steps.now;
      same_rule = refl;
      calls_left = c.iter-left.ensures.rest;
    }

pub loop-slot-preserved : goal.loop-slot-preserved
loop-slot-preserved g c =
    let m = g.R.Rule.meaning c.args.meter.now.rule in
    let cs : List Call = c.args.calls.now in
    let i : ℕ = c.loop-slot.slot-index in
    let call : Call = c.in-Some.call.now in
    let log = g.E.Engine.logged c.loop-slot.meter.engine in
    let b = c.loop-slot.meter.model in
    let e : drop i cs ≡ call ∷ iter_rest c.next.new.self = sym c.loop-slot.invariant.calls_left ∙ c.in-Some.ensures.steps in
    let in-calls : i < length cs = omega (arith, length-drop i cs, ap length e) in
    let in-steps : i < length c.loop-slot.steps = omega arith in
    let first = drop_more cs i call in-calls in
    let at : slice_get cs i ≡ Some call = cc (slice_get-get_or cs i call in-calls) in
    let right : Right m log b call c.step.result = subst (λ (z : Meaning). Right z log b call c.step.result) (ap g.R.Rule.meaning c.loop-slot.invariant.same_rule) c.step.ensures.right in
    record {
      so_far = progress_more m (g.E.Engine.logged c.args.meter.now.engine) c.args.meter.now.model cs c.args.steps.now c.loop-slot.steps i b log call c.step.result c.step.new.meter.model (g.E.Engine.logged c.step.new.meter.engine) c.loop-slot.invariant.so_far in-steps at right c.step.ensures.after c.step.ensures.engine;
      same_rule = c.step.ensures.rule ∙ c.loop-slot.invariant.same_rule;
      calls_left = cc;
    }

pub returns-after-loop-slot : goal.returns-after-loop-slot
returns-after-loop-slot g c =
    let cs : List Call = c.args.calls.now in
    let i : ℕ = c.loop-slot.slot-index in
    let p = c.loop-slot.invariant.so_far in
    let done : i ≡ min (length cs) (length c.args.steps.now) = omega (arith, p.within) in
    let end = progress_all (g.R.Rule.meaning c.args.meter.now.rule) (g.E.Engine.logged c.args.meter.now.engine) c.args.meter.now.model cs c.args.steps.now c.loop-slot.steps i c.loop-slot.meter.model (g.E.Engine.logged c.loop-slot.meter.engine) p c.loop-slot.auto.steps done in
    record { written = end.written; engine = end.asks }

pub returns-in_default : goal.returns-in_default
returns-in_default g c =
    let m = g.R.Rule.meaning c.args.meter.now.rule in
    let log = g.E.Engine.logged c.args.meter.now.engine in
    let b = c.args.meter.now.model in
    let cs : List Call = c.args.calls.now in
    let lent : List Step = c.args.steps.now in
    let i : ℕ = c.loop-slot.slot-index in
    let p = c.loop-slot.invariant.so_far in
    let none-left : length cs ≤ i = omega (arith, length-drop i cs, ap length c.loop-slot.invariant.calls_left, c.in_default.ensures.steps.0) in
    let done : i ≡ min (length cs) (length lent) = omega (arith, p.within) in
    let end = progress_all m log b cs lent c.loop-slot.steps i c.loop-slot.meter.model (g.E.Engine.logged c.loop-slot.meter.engine) p c.loop-slot.auto.steps done in
    record { written = subst (Written m log b cs lent) (sym (set-get_or c.loop-slot.steps i _)) end.written; engine = end.asks }
