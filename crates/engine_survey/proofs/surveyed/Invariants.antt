use Rattle.std.proofs.Common.{◌≡◌}
use Rattle.engine_survey.proofs.surveyed.Given as goal

abbrev pub invariant-loop-done : goal.invariant-loop-done
invariant-loop-done l = (l.tally.quotients ≡ 0) × (l.tally.rounded ≡ 0)
