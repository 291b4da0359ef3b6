use Rattle.std.proofs.Common.{sym, arith}
use borrow.Author.Differences.{ints}
use Rattle.window.specs.Replies.{signed_of}
use Rattle.window.proofs.words.signed.Goals as goal

pub returns-then-is_negative : goal.returns-then-is_negative
unfolding signed_of
returns-then-is_negative c = rw (sym c.if-is_negative.ensures) (omega (arith, ints, c.significand-size.ensures))

pub returns-else-is_negative : goal.returns-else-is_negative
unfolding signed_of
returns-else-is_negative c = rw (sym c.if-is_negative.ensures) (omega (arith, ints, c.significand-size.ensures))
