use Rattle.std.proofs.Common.{arith}
use Rattle.cubic.proofs.Newton.{moved, begins}
use Rattle.cubic.proofs.start.Started.refined.Goals as goal

pub loop-done-init : goal.loop-done-init
loop-done-init c =
    let near = rw (← c.divisor-divisor.ensures.value) at c.args.self.near in
    moved _ _ _ (omega arith) (begins _ _ _ _ near c.steps-needed.ensures)
