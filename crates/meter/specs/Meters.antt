-- What a contract sees of a meter.
use Rattle.meter.specs.Model.{Model}

-- the reference model, the engine and the rule
pub record Seen (E R : Type 0) : Type 0 where
  pub model : Model
  pub engine : E
  pub rule : R

-- a meter that is like another but for its model
abbrev pub with_model : {E R : Type 0} → Seen E R → Model → Seen E R
with_model m b = record { model = b; engine = m.engine; rule = m.rule }
