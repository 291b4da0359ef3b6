use Rattle.std.proofs.Common.{take}
use Rattle.places.proofs.Lacking.{Turned}
use Rattle.places.proofs.sums.lacking.Given as goal

abbrev pub invariant-loop-digit : goal.invariant-loop-digit
invariant-loop-digit l = Turned l.digit-items (take 317 l.fn.bits.digits) l.digit-index l.seen
