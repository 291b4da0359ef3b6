use Rattle.std.proofs.Common.{◌≡◌, drop}
use Rattle.std.specs.Slice.Iter.{iter_rest}
use Rattle.replay.proofs.Writing.{Progress}
use Rattle.replay.proofs.replaying.perform_all.Given as goal

abbrev pub invariant-loop-slot : goal.invariant-loop-slot
invariant-loop-slot g l =
    record {
      so_far : Progress (g.R.Rule.meaning l.initial.meter.rule) (g.E.Engine.logged l.initial.meter.engine) l.initial.meter.model l.calls l.initial.steps l.steps l.slot-index l.meter.model (g.E.Engine.logged l.meter.engine);
      same_rule : l.meter.rule ≡ l.initial.meter.rule;
      calls_left : iter_rest l.left ≡ drop l.slot-index l.calls;
    }
