-- The promise over whole runs: what a meter refuses, holds and answers, and how any two answers compare, whatever engines,
-- rules and calls.
use Rattle.std.specs.Prelude.{◌≡◌, ℕ, ◌+◌, ◌<◌, Bool, List, length, take, drop, Some, None, Ok}
use Rattle.std.specs.List.{slice_get}
use Rattle.engines.specs.declared.meaning.Log.{Log}
use Rattle.rounding.specs.declared.rest.Rest.{Rest}
use Rattle.rounding.specs.Format.{binary32}
use Rattle.rounding.specs.Exact.{Exact, Less, Same, Between, worth}
use Rattle.rounding.specs.Laws.{Valued}
use Rattle.rounding.specs.Rules.{Meaning}
use Rattle.rounding.specs.Rounding.{Outcome}
use Rattle.meter.specs.declared.call.Call.{Call}
use Rattle.meter.specs.Model.{Model, fresh, refusal, after}
use Rattle.replay.specs.declared.step.Step.{Step}
use Rattle.replay.specs.declared.step.Told.TheVariants.{Number}
use Rattle.replay.specs.Calls.{computed, exact_of, answer_of, refused_by, told}
use Rattle.replay.specs.Runs.{state, asks_of, stands}

-- A watched run: a new meter of an address and a rule, over an engine of some meaning; the calls that it was given, the room
-- that was lent for its steps, and what is written there now.
pub record Run : Type 0 where
  pub address : ℕ
  pub rule : Meaning
  pub engine : Log
  pub calls : List Call
  pub lent : List Step
  pub steps : List Step

-- the model as the k-th call finds it
abbrev pub before : Run → ℕ → Model
before r k = state (fresh r.address) (take k r.calls)

-- the k-th call, with what was written of it
pub record At (r : Run) (k : ℕ) (c : Call) (s : Step) : Type 0 where
  pub given : slice_get r.calls k ≡ Some c
  pub written : slice_get r.steps k ≡ Some s

-- What a run tells of one meter.
pub record Watched (r : Run) : Type 0 where
  -- it refuses exactly what the model refuses, with the same fault, and so with the same number
  pub refuses : (k : ℕ) (c : Call) (s : Step) → At r k c s → refused_by s.told ≡ refusal (before r k) c
  -- after each call its window is the model's replies, encoding by encoding, in their order
  pub window : (k : ℕ) (c : Call) (s : Step) → At r k c s → stands s ≡ (after (before r k) c).replies
  -- what it accepts to compute has the defined encoding and flags
  pub numbers : (k : ℕ) (c : Call) (s : Step) (o : Outcome) → At r k c s → refusal (before r k) c ≡ None → computed r.rule (before r k) c ≡ Some o → s.told ≡ Ok (Number (answer_of o))
  -- every answer is the one defined, tokens and counts included
  pub answers : (k : ℕ) (c : Call) (s : Step) → At r k c s → s.told ≡ told r.rule (before r k) c
  -- the engine was asked as defined, and no further
  pub asks : (k : ℕ) (c : Call) (s : Step) → At r k c s → s.log ≡ asks_of r.engine (fresh r.address) (take (k + 1) r.calls)
  -- as many calls are performed as there is room for, and the room behind them stays
  pub room : length r.steps ≡ length r.lent
  pub beyond : drop (length r.calls) r.steps ≡ drop (length r.calls) r.lent

-- The k-th call has the exact value v, taken over the model's replies, and was answered by the encoding x with these flags.
pub record Answered (r : Run) (k : ℕ) (v : Exact) (x flags : ℕ) : Type 0 where
  pub call : Call
  pub step : Step
  pub at : At r k call step
  pub exact : exact_of (before r k) call ≡ Some v
  pub answer : step.told ≡ Ok (Number (answer_of (record { bits = x; flags = flags })))

-- An answer is its exact value where binary32 has that; otherwise no binary32 value, infinities included, lies strictly between the two.
abbrev pub Faithful : Run → Type 0
Faithful r = (k : ℕ) (v : Exact) (x flags : ℕ) → Answered r k v x flags → (y : ℕ) → Valued binary32 y → (Same (worth binary32 y) v → Same (worth binary32 x) v) × (Between (worth binary32 y) (worth binary32 x) v → ⊥)

-- rules of one meaning are one rule
pub record Alike (m n : Meaning) : Type 0 where
  pub grow : (s o : Bool) (k : Rest) → m.grow s o k ≡ n.grow s o k
  pub infinite : (s : Bool) → m.infinite s ≡ n.infinite s

-- Under one rule, equal exact values other than zero have the same bits and raise the same flags.
abbrev pub Agreeing : Run → Run → Type 0
Agreeing r q = Alike r.rule q.rule → (k l : ℕ) (v w : Exact) (x f y g : ℕ) → Answered r k v x f → Answered q l w y g → 0 < v.num → Same v w → (x ≡ y) × (f ≡ g)

-- Under one rule, the lesser exact value never has the greater answer.
abbrev pub Rising : Run → Run → Type 0
Rising r q = Alike r.rule q.rule → (k l : ℕ) (v w : Exact) (x f y g : ℕ) → Answered r k v x f → Answered q l w y g → Less v w → Less (worth binary32 y) (worth binary32 x) → ⊥

-- The promise: of each of two runs, and of any two answers, of one run or of both.
pub record Promise (r q : Run) : Type 0 where
  pub first : Watched r
  pub second : Watched q
  pub first_faithful : Faithful r
  pub second_faithful : Faithful q
  pub first_agrees : Agreeing r r
  pub second_agrees : Agreeing q q
  pub both_agree : Agreeing r q
  pub first_rises : Rising r r
  pub second_rises : Rising q q
  pub first_under_second : Rising r q
  pub second_under_first : Rising q r
