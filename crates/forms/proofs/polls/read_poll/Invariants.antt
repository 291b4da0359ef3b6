-- What is left stands inside as many repeats as were counted, and each took eight bytes.
use Rattle.std.proofs.Common.{◌≡◌, ◌+◌, ◌*◌, ◌≤◌, length}
use Rattle.forms.proofs.polls.read_poll.Given as goal
use Rattle.forms.specs.Polls.{repeated}

abbrev pub invariant-loop-inner : goal.invariant-loop-inner
invariant-loop-inner l = (l.initial.rest ≡ repeated l.again l.rest) × (length l.rest + 8 * l.again ≤ 80)

abbrev pub decreases-loop-inner : goal.decreases-loop-inner
decreases-loop-inner l = length l.rest
