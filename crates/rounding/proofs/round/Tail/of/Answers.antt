use Rattle.std.proofs.Common.{◌-◌, arith}
use Rattle.rounding.proofs.Cuts.{cut_near, cut_far}
use Rattle.rounding.proofs.round.Tail.of.Goals as goal

pub returns-then-dropped-gt64 : goal.returns-then-dropped-gt64
returns-then-dropped-gt64 c = cut_far c.args.quotient (c.args.dropped - 1) (omega arith) (omega arith) (omega arith)

pub returns : goal.returns
returns c = cut_near c.args.quotient (c.args.dropped - 1) (omega arith)
