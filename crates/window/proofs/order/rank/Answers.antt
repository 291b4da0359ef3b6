use Rattle.std.proofs.Common.{sym, arith}
use Rattle.window.specs.Replies.{rank}
use Rattle.window.proofs.order.rank.Goals as goal

pub returns-then-is_negative : goal.returns-then-is_negative
unfolding rank
returns-then-is_negative c = rw (sym c.if-is_negative.ensures) (omega (arith, c.size.ensures))

pub returns-else-is_negative : goal.returns-else-is_negative
unfolding rank
returns-else-is_negative c = rw (sym c.if-is_negative.ensures) (omega (arith, c.size-else-is_negative.ensures))
