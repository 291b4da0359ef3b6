-- The meaning of a session.
use Rattle.std.specs.Prelude.{Bool, true}
use Rattle.engine_choice.specs.Choice.{log_of, named}
use Rattle.engine_choice.specs.declared.EngineName.{EngineName}
use Rattle.session.specs.State.{State}
use Rattle.session.specs.declared.session.Desk.{Desk}
use Rattle.session.specs.declared.session.Session.{Session}

abbrev pub desk_state : Bool → Desk → State
desk_state ready d =
    record { ready = ready; meter = d.meter.model; log = log_of d.meter.engine; rule = d.meter.rule; flags = d.standing.raised.number }

-- at the desk, where every form finds the meter set up
abbrev pub at_desk : Desk → State
at_desk d = desk_state true d

abbrev pub state : Session → State
state s = desk_state s.ready s.desk

-- which engine is fitted
abbrev pub engine_of : Session → EngineName
engine_of s = named s.desk.meter.engine
