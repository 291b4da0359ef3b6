use Rattle.std.proofs.Common.{◌+◌}
use Rattle.places.proofs.Binary.{Carrying}
use Rattle.places.proofs.carry.carried.Given as goal

abbrev pub invariant-loop-digit : goal.invariant-loop-digit
invariant-loop-digit g l = Carrying g.row.N l.digit-items l.digit-index l.rest (l.carry + l.word)
