-- The numbers that a poll can have.
use Rattle.std.specs.Prelude.{Bool, ◌&&◌, nat_le}
use Rattle.replay.specs.declared.step.SeenPoll.{SeenPoll}

-- an inverter's address, and one of three attempts
abbrev pub is_poll : SeenPoll → Bool
is_poll p = (nat_le 1 p.address && nat_le p.address 247) && (nat_le 1 p.attempt && nat_le p.attempt 3)
