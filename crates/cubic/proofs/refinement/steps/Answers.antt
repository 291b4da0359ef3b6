use Rattle.std.proofs.Common.{arith, lit≤}
use Rattle.cubic.proofs.Newton.{enough}
use Rattle.cubic.proofs.refinement.steps.Goals as goal

pub returns-then-bits-lt7 : goal.returns-then-bits-lt7
returns-then-bits-lt7 c = enough c.args.bits 4 _ (omega arith) (lit≤ tt)

pub returns-else-bits-lt7 : goal.returns-else-bits-lt7
returns-else-bits-lt7 c = enough c.args.bits 7 _ (omega arith) (lit≤ tt)
