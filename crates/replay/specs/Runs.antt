-- Runs of calls on the reference model, beside what was written down of them.
use Rattle.std.specs.Prelude.{◌≡◌, ℕ, ◌-◌, List, [], ◌∷◌, ◌++◌, length, take, drop, replicate, Some}
use Rattle.std.specs.List.{slice_get}
use Rattle.engines.specs.declared.meaning.Log.{Log}
use Rattle.rounding.specs.declared.encoding.Encoding.{Encoding}
use Rattle.rounding.specs.Rules.{Meaning}
use Rattle.meter.specs.declared.call.Call.{Call}
use Rattle.meter.specs.Model.{Model, after}
use Rattle.replay.specs.declared.step.Step.{Step}
use Rattle.replay.specs.Calls.{asked, told}

-- the model after a list of calls
unfoldable pub state : Model → List Call → Model
state b [] = b
state b (c ∷ cs) = state (after b c) cs

-- the engine's meaning after a list of calls
unfoldable pub asks_of : Log → Model → List Call → Log
asks_of log b [] = log
asks_of log b (c ∷ cs) = asks_of (asked log b c) (after b c) cs

-- the replies that a step says stand
abbrev pub stands : Step → List Encoding
stands s = take s.count s.standing

-- a step tells its call: the answer, the engine's meaning, and the standing replies with zeros behind them
pub record Right (m : Meaning) (log : Log) (b : Model) (c : Call) (s : Step) : Type 0 where
  pub answer : s.told ≡ told m b c
  pub asking : s.log ≡ asked log b c
  pub counted : s.count ≡ length (after b c).replies
  pub listed : s.standing ≡ (after b c).replies ++ replicate (288 - length (after b c).replies) (record { bits = 0 })

-- Of the k-th call and its step, in a run from the model b. Steps past the last call are as they were lent.
pub record Written (m : Meaning) (log : Log) (b : Model) (calls : List Call) (lent steps : List Step) : Type 0 where
  pub each : (k : ℕ) (c : Call) (s : Step) → slice_get calls k ≡ Some c → slice_get steps k ≡ Some s → Right m (asks_of log b (take k calls)) (state b (take k calls)) c s
  pub beyond : drop (length calls) steps ≡ drop (length calls) lent
