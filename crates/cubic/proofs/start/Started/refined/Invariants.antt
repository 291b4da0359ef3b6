use Rattle.std.proofs.Common.{◌-◌, ◌*◌, ◌^◌, ◌≤◌}
use Rattle.cubic.specs.Reciprocal.{gap, allowed}
use Rattle.cubic.proofs.start.Started.refined.Given as goal

-- no further off than the steps to come can mend
abbrev pub invariant-loop-done : goal.invariant-loop-done
invariant-loop-done l = gap (l.found * l.divisor) (2 ^ 55) ≤ allowed (l.needed - l._done)
