use Rattle.std.proofs.Common.{◌≡◌, ◌+◌, ◌≤◌}
use Rattle.session.proofs.session.polls.carry_on.Given as goal

-- the meter stays, and each turn is one attempt more
abbrev pub invariant-loop : goal.invariant-loop
invariant-loop g l =
    (l.meter.model ≡ l.initial.meter.model) × (l.meter.engine ≡ l.initial.meter.engine) × (l.meter.rule ≡ l.initial.meter.rule) × (l.poll.address ≡ l.initial.poll.address) × (l.poll.attempt ≡ l.counter + 1) × (l.poll.attempt ≤ 3)
