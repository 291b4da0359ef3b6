use Rattle.std.proofs.Common.{arith}
use Rattle.rounding.proofs.Cuts.{long}
use Rattle.rounding.proofs.round.length.Goals as goal

pub returns : goal.returns
returns c =
    let l = long c.args.n c.requires (omega arith) in
    record { within = (l.low_end, l.high_end); bits = (l.at_least, l.less_than) }
