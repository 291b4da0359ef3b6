-- The reference model of a meter: its address, whether a poll is pending, and the standing replies. It is fed what each call is
-- given, and no answer.
use Rattle.std.specs.Prelude.{ℕ, ◌-◌, Bool, true, false, cond, not, List, [], ◌∷◌, ◌++◌, length, take, drop, Some, None, Option, ◌==◌, nat_le}
use Rattle.rounding.specs.declared.encoding.Encoding.{Encoding}
use Rattle.rounding.specs.Format.{binary32, is_finite}
use Rattle.window.specs.declared.fault.WindowFault.TheVariants.{Full, Empty}
use Rattle.meter.specs.declared.fault.MeterFault.{MeterFault}
use Rattle.meter.specs.declared.fault.MeterFault.TheVariants.{Window, NotFinite, OtherAddress, StillPending, NonePending, LastAttempt}
use Rattle.meter.specs.declared.call.Call.{Call}
use Rattle.meter.specs.declared.call.Call.TheVariants.{Poll, Repeat, Reply, Lapse, Retire, Retract, Quotient, Square, Mean, MeanSquare}
use Rattle.meter.specs.Attempts.{attempt_number}

pub record Model : Type 0 where
  pub address : ℕ
  pub pending : Bool
  pub replies : List Encoding

-- a new meter
abbrev pub fresh : ℕ → Model
fresh a = record { address = a; pending = false; replies = [] }

-- the first test that holds gives its fault
abbrev pub first : {A : Type 0} → Bool → A → Option A → Option A
first test fault rest = cond test (Some fault) rest

-- The refusals, test by test, in their order. A poll is named by its address and attempt.
abbrev pub refuses_poll : Model → Option MeterFault
refuses_poll m = first m.pending StillPending None

abbrev pub refuses_ended : Model → ℕ → Option MeterFault → Option MeterFault
refuses_ended m address rest = first (not m.pending) NonePending (first (not (address == m.address)) OtherAddress rest)

abbrev pub refuses_repeat : Model → ℕ → ℕ → Option MeterFault
refuses_repeat m address attempt = refuses_ended m address (first (nat_le 3 attempt) LastAttempt None)

abbrev pub refuses_reply : Model → ℕ → Encoding → Option MeterFault
refuses_reply m address x = refuses_ended m address (first (not (is_finite binary32 x.bits)) NotFinite (first (nat_le 288 (length m.replies)) (Window Full) None))

abbrev pub refuses_lapse : Model → ℕ → Option MeterFault
refuses_lapse m address = refuses_ended m address None

abbrev pub refuses_empty : Model → Option MeterFault
refuses_empty m = first (length m.replies == 0) (Window Empty) None

abbrev pub refusal : Model → Call → Option MeterFault
refusal m Poll = refuses_poll m
refusal m (Repeat p) = refuses_repeat m p.address.number (attempt_number p.attempt)
refusal m (Reply p x) = refuses_reply m p.address.number x
refusal m (Lapse p) = refuses_lapse m p.address.number
refusal m Retire = refuses_empty m
refusal m Retract = refuses_empty m
refusal m (Quotient x y) = None
refusal m (Square x) = None
refusal m Mean = refuses_empty m
refusal m MeanSquare = refuses_empty m

-- what is left where a call is refused, and what it makes of the model where it is not
abbrev pub unless : {A : Type 0} → Option A → Model → Model → Model
unless None new old = new
unless (Some fault) new old = old

-- What accepted calls do: a poll becomes pending; a reply stands as the newest and ends its poll, which a lapse does alone; the oldest
-- or the newest reply goes.
abbrev pub polled : Model → Model
polled m = record { address = m.address; pending = true; replies = m.replies }

abbrev pub replied : Model → Encoding → Model
replied m x = record { address = m.address; pending = false; replies = m.replies ++ x ∷ [] }

abbrev pub lapsed : Model → Model
lapsed m = record { address = m.address; pending = false; replies = m.replies }

abbrev pub retired : Model → Model
retired m = record { address = m.address; pending = m.pending; replies = drop 1 m.replies }

abbrev pub retracted : Model → Model
retracted m = record { address = m.address; pending = m.pending; replies = take (length m.replies - 1) m.replies }

-- the model after a call
abbrev pub after : Model → Call → Model
after m Poll = unless (refuses_poll m) (polled m) m
after m (Repeat p) = m
after m (Reply p x) = unless (refuses_reply m p.address.number x) (replied m x) m
after m (Lapse p) = unless (refuses_lapse m p.address.number) (lapsed m) m
after m Retire = unless (refuses_empty m) (retired m) m
after m Retract = unless (refuses_empty m) (retracted m) m
after m (Quotient x y) = m
after m (Square x) = m
after m Mean = m
after m MeanSquare = m
