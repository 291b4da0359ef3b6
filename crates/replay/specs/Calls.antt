-- One call on the reference model: what it answers, which exact value it has, and what the engine is asked.
use Rattle.std.specs.Prelude.{◌+◌, ◌-◌, cond, length, Some, None, Option, Ok, Err, Result, ◌==◌}
use Rattle.rounding.specs.declared.round.Answer.{Answer}
use Rattle.rounding.specs.Format.{binary32, is_finite}
use Rattle.rounding.specs.Exact.{Exact}
use Rattle.rounding.specs.Rules.{Meaning}
use Rattle.rounding.specs.Rounding.{Outcome}
use Rattle.engines.specs.declared.meaning.Log.{Log}
use Rattle.arithmetic.specs.Defined.{quotient, square, quotient_value, square_value, has_quotient, quotient_log}
use Rattle.means.specs.Defined.{mean, mean_square, mean_value, mean_square_value, mean_log, mean_square_log}
use Rattle.meter.specs.declared.call.Call.{Call}
use Rattle.meter.specs.declared.call.Call.TheVariants.{Poll, Repeat, Reply, Lapse, Retire, Retract, Quotient, Square, Mean, MeanSquare}
use Rattle.meter.specs.declared.call.NamedPoll.{NamedPoll}
use Rattle.meter.specs.declared.fault.MeterFault.{MeterFault}
use Rattle.meter.specs.Attempts.{attempt_number}
use Rattle.meter.specs.Model.{Model, refusal}
use Rattle.replay.specs.declared.step.SeenPoll.{SeenPoll}
use Rattle.replay.specs.declared.step.Told.{Told}
use Rattle.replay.specs.declared.step.Told.TheVariants.{Pending, Taken, Lapsed, Left, Number}
use Rattle.replay.specs.declared.step.Refusal.{Refusal}

-- the encoding and flags that are defined for a call that computes, under a rule's meaning, with the replies of the model
abbrev pub computed : Meaning → Model → Call → Option Outcome
computed m b (Quotient x y) = Some (quotient binary32 m x.bits y.bits)
computed m b (Square x) = Some (square binary32 m x.bits)
computed m b Mean = Some (mean m b.replies)
computed m b MeanSquare = Some (mean_square m b.replies)
computed m b _ = None

-- the exact value of a call, where it has one
abbrev pub exact_of : Model → Call → Option Exact
exact_of b (Quotient x y) = cond (has_quotient binary32 x.bits y.bits) (Some (quotient_value binary32 x.bits y.bits)) None
exact_of b (Square x) = cond (is_finite binary32 x.bits) (Some (square_value binary32 x.bits)) None
exact_of b Mean = cond (length b.replies == 0) None (Some (mean_value b.replies))
exact_of b MeanSquare = cond (length b.replies == 0) None (Some (mean_square_value b.replies))
exact_of b _ = None

-- the engine's meaning after a call
abbrev pub asked : Log → Model → Call → Log
asked log b (Quotient x y) = quotient_log binary32 log x.bits y.bits
asked log b Mean = mean_log log b.replies
asked log b MeanSquare = mean_square_log log b.replies
asked log b _ = log

abbrev pub seen : NamedPoll → SeenPoll
seen p = record { address = p.address.number; attempt = attempt_number p.attempt }

-- an answer of the defined encoding and flags
abbrev pub answer_of : Outcome → Answer
answer_of o = record { encoding = record { bits = o.bits }; flags = record { number = o.flags } }

-- what an accepted call answers
abbrev pub accepted : Meaning → Model → Call → Told
accepted m b Poll = Pending (record { address = b.address; attempt = 1 })
accepted m b (Repeat p) = Pending (record { address = p.address.number; attempt = attempt_number p.attempt + 1 })
accepted m b (Reply p x) = Taken (length b.replies + 1)
accepted m b (Lapse p) = Lapsed
accepted m b Retire = Left (length b.replies - 1)
accepted m b Retract = Left (length b.replies - 1)
accepted m b (Quotient x y) = Number (answer_of (quotient binary32 m x.bits y.bits))
accepted m b (Square x) = Number (answer_of (square binary32 m x.bits))
accepted m b Mean = Number (answer_of (mean m b.replies))
accepted m b MeanSquare = Number (answer_of (mean_square m b.replies))

-- the poll that was given to a refused call comes back, but for a lapse
abbrev pub handed_back : Call → Option SeenPoll
handed_back (Repeat p) = Some (seen p)
handed_back (Reply p x) = Some (seen p)
handed_back _ = None

-- what a refused call answers
abbrev pub refused : Call → MeterFault → Refusal
refused c fault = record { fault = fault; poll = handed_back c }

-- the one answer that a call may give
abbrev pub either : Option MeterFault → Told → (MeterFault → Refusal) → Result Told Refusal
either None yes_told no_told = Ok yes_told
either (Some fault) yes_told no_told = Err (no_told fault)

abbrev pub told : Meaning → Model → Call → Result Told Refusal
told m b c = either (refusal b c) (accepted m b c) (refused c)

-- the fault by which an answer refuses
abbrev pub refused_by : Result Told Refusal → Option MeterFault
refused_by (Ok t) = None
refused_by (Err r) = Some r.fault
