-- What can be told of a session.
use Rattle.std.specs.Prelude.{ℕ, Bool}
use Rattle.engines.specs.declared.meaning.Log.{Log}
use Rattle.meter.specs.Model.{Model}
use Rattle.rounding.specs.declared.rules.AnyRule.{AnyRule}

pub record State : Type 0 where
  -- whether the meter was set up
  pub ready : Bool
  pub meter : Model
  -- the meaning of its engine
  pub log : Log
  pub rule : AnyRule
  -- the number of the flags on record
  pub flags : ℕ
