use Rattle.std.proofs.Common.{arith}
use Rattle.engines.proofs.Recurrence.{room}
use Rattle.engines.proofs.digits.developed.Goals as goal

pub step-found-requires : goal.step-found-requires
step-found-requires c =
    let few = room c.loop-done._done _ _ _ _ (omega arith) c.loop-done.invariant.0 (omega arith) in
    omega arith
