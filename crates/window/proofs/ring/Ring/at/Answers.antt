use Rattle.std.proofs.Common.{ℕ, get_or, sym, ap, ◌∙◌, arith}
use Rattle.window.specs.Ring.{blank}
use Rattle.window.proofs.Turning.{ringed_at}
use Rattle.window.proofs.ring.Ring.at.Goals as goal

pub returns : goal.returns
returns c =
    ap (λ (k : ℕ). get_or c.args.self.now.cells k blank) c.cell.ensures
    ∙ sym (ringed_at c.args.self.now.cells c.args.self.now.start c.args.self.now.count c.args.i (omega arith))
