use Rattle.std.proofs.Common.{◌∙◌, arith}
use Rattle.window.proofs.Turning.{ringed_none, ringed_last}
use Rattle.window.proofs.ring.Ring.without_newest.Goals as goal

pub returns-in_err-count : goal.returns-in_err-count
returns-in_err-count c = rw c.from_residual.ensures (ringed_none c.args.self.cells c.args.self.start c.args.self.count (omega (arith, c.in_err-count.ensures)))

pub returns : goal.returns
returns c =
    let r = c.args.self in
    ringed_last r.cells r.start r.count c.in_ok-count.count (omega (arith, c.in_ok-count.ensures)) ∙ rw c.at.ensures
