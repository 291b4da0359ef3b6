use Rattle.std.proofs.Common.{◌≡◌, ◌+◌, ◌*◌, ◌^◌, ◌<◌}
use Rattle.engines.proofs.digits.developed.Given as goal

-- after i steps the bits and the rest make up 2^i times the dividend
abbrev pub invariant-loop-done : goal.invariant-loop-done
invariant-loop-done l =
    (l.found.bits * l.wide + l.found.rest ≡ 2 ^ l._done * l.fn.question.dividend) × (l.found.rest < l.wide)
