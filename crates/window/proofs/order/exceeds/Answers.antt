use Rattle.window.proofs.Rising.{ranks_order}
use Rattle.window.proofs.order.exceeds.Goals as goal

pub returns : goal.returns
returns c = rw (c.rank.ensures, c.rank-2.ensures) (ranks_order c.args.y c.args.x)
