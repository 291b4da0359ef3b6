-- What a session answers to a line, and what it holds afterwards.
use Rattle.std.specs.Prelude.{◌≡◌, ℕ, ◌+◌, ◌-◌, true, false, not, List, ◌++◌, length, drop, Some, None, Ok, Err, Option, Result, bit_or, nat_le, option_map}
use Rattle.answers.specs.declared.Answer.{Answer}
use Rattle.answers.specs.declared.Answer.TheVariants as says
use Rattle.answers.specs.Answers.{text as answer_text}
use Rattle.engine_choice.specs.declared.EngineName.{EngineName}
use Rattle.engines.specs.Meaning.{none}
use Rattle.forms.specs.Forms.{Good, text}
use Rattle.forms.specs.declared.Calculation.{Calculation}
use Rattle.forms.specs.declared.Command.{Command}
use Rattle.forms.specs.declared.Command.TheVariants.{Peak, Retire, Retract, Flags, Clear}
use Rattle.forms.specs.declared.Ending.{Ending}
use Rattle.forms.specs.declared.Ending.TheVariants.{Reply, Lapse}
use Rattle.forms.specs.declared.Form.{Form}
use Rattle.forms.specs.declared.Form.TheVariants as form
use Rattle.forms.specs.declared.Poll.{Poll}
use Rattle.forms.specs.declared.Setup.{Setup}
use Rattle.lex.specs.Reads.{Reads}
use Rattle.meter.specs.Addresses.{refuses_address}
use Rattle.meter.specs.Model.{Model, first, fresh, lapsed, refuses_empty, replied, retired, retracted}
use Rattle.meter.specs.declared.fault.MeterFault.{MeterFault}
use Rattle.meter.specs.declared.fault.MeterFault.TheVariants.{Window, NotFinite, LastAttempt}
use Rattle.rounding.specs.Format.{binary32, is_finite}
use Rattle.rounding.specs.Rounding.{Outcome}
use Rattle.rounding.specs.declared.encoding.Encoding.{Encoding}
use Rattle.rounding.specs.declared.rules.AnyRule.TheVariants.{Even}
use Rattle.session.specs.Faults.{number}
use Rattle.session.specs.Outcomes.{log_after, outcome, refuses_calculation}
use Rattle.session.specs.State.{State}
use Rattle.session.specs.declared.fault.ConsoleFault.{ConsoleFault}
use Rattle.session.specs.declared.fault.ConsoleFault.TheVariants as fault
use Rattle.window.specs.Peak.{Peaks}
use Rattle.window.specs.declared.fault.WindowFault.TheVariants.{Full}
use Rattle.window.specs.declared.peak.Peak.{Peak as Found}

abbrev pub encoding : ℕ → Encoding
encoding n = record { bits = n }

-- how many replies stand
abbrev pub count : Model → ℕ
count m = length m.replies

-- REFUSALS, test by test: the fault, or none

abbrev pub refuses_setup : State → Setup → Option ConsoleFault
refuses_setup s x = first s.ready fault.Text (option_map fault.Meter (refuses_address x.address))

-- A poll is pending from its beginning on, and at its own meter, so that only these are left: three repeats are one too many; then the
-- ending's own tests.
abbrev pub refuses_ending : Model → Ending → Option MeterFault
refuses_ending m (Reply bits) = first (not (is_finite binary32 bits)) NotFinite (first (nat_le 288 (count m)) (Window Full) None)
refuses_ending m Lapse = None

abbrev pub refuses_polling : Model → Poll → Option MeterFault
refuses_polling m p = first (nat_le 3 p.again) LastAttempt (refuses_ending m p.ending)

abbrev pub refuses_command : Model → Command → Option MeterFault
refuses_command m Peak = refuses_empty m
refuses_command m Retire = refuses_empty m
refuses_command m Retract = refuses_empty m
refuses_command m Flags = None
refuses_command m Clear = None

-- until the meter is set up, the fault is the text's, and then the meter's own
abbrev pub ready_first : State → Option MeterFault → Option ConsoleFault
ready_first s rest = first (not s.ready) fault.Text (option_map fault.Meter rest)

abbrev pub refusal : State → Form → Option ConsoleFault
refusal s (form.Meter x) = refuses_setup s x
refusal s (form.Compute c) = ready_first s (refuses_calculation s.meter c)
refusal s (form.Command w) = ready_first s (refuses_command s.meter w)
refusal s (form.Poll p) = ready_first s (refuses_polling s.meter p)
refusal s (form.Try c) = ready_first s (refuses_calculation s.meter c)

-- ANSWERS to a form that is not refused

abbrev pub number_of : Outcome → Answer
number_of o = says.Number o.bits o.flags

abbrev pub ending_says : Model → Ending → Answer
ending_says m (Reply bits) = says.Taken (count m + 1)
ending_says m Lapse = says.Lapsed (count m)

abbrev pub CommandSays : State → Command → Answer → Type 0
CommandSays s Peak a = (p : Found) × (Peaks s.meter.replies p × (a ≡ says.Peak p.place p.encoding.bits))
CommandSays s Retire a = a ≡ says.Left (count s.meter - 1)
CommandSays s Retract a = a ≡ says.Left (count s.meter - 1)
CommandSays s Flags a = a ≡ says.Flags s.flags
CommandSays s Clear a = a ≡ says.Flags 0

abbrev pub Says : State → Form → Answer → Type 0
Says s (form.Meter x) a = a ≡ says.Ready x.address
Says s (form.Compute c) a = a ≡ number_of (outcome s.rule s.meter c)
Says s (form.Command w) a = CommandSays s w a
Says s (form.Poll p) a = a ≡ ending_says s.meter p.ending
Says s (form.Try c) a = a ≡ number_of (outcome s.rule s.meter c)

-- STATES after a form that is not refused

abbrev pub with_meter : State → Model → State
with_meter s m = record { ready = s.ready; meter = m; log = s.log; rule = s.rule; flags = s.flags }

abbrev pub with_flags : State → ℕ → State
with_flags s n = record { ready = s.ready; meter = s.meter; log = s.log; rule = s.rule; flags = n }

-- the engine may have been asked; the flags stay
abbrev pub tried : State → Calculation → State
tried s c = record { ready = s.ready; meter = s.meter; log = log_after s.log s.meter c; rule = s.rule; flags = s.flags }

abbrev pub set_up : State → Setup → State
set_up s x = record { ready = true; meter = fresh x.address; log = none; rule = x.rule; flags = s.flags }

abbrev pub ended : Model → Ending → Model
ended m (Reply bits) = replied m (encoding bits)
ended m Lapse = lapsed m

abbrev pub commanded : State → Command → State
commanded s Peak = s
commanded s Retire = with_meter s (retired s.meter)
commanded s Retract = with_meter s (retracted s.meter)
commanded s Flags = s
commanded s Clear = with_flags s 0

abbrev pub after : State → Form → State
after s (form.Meter x) = set_up s x
after s (form.Compute c) = with_flags (tried s c) (bit_or s.flags (outcome s.rule s.meter c).flags)
after s (form.Command w) = commanded s w
after s (form.Poll p) = with_meter s (ended s.meter p.ending)
after s (form.Try c) = tried s c

-- WHAT COMES OF A FORM: an answer, or a fault that changes nothing

abbrev pub Comes : State → Form → Result Answer ConsoleFault → State → Type 0
Comes s f (Ok a) t = (refusal s f ≡ None) × Says s f a × (t ≡ after s f)
Comes s f (Err e) t = (refusal s f ≡ Some e) × (t ≡ s)

-- AND OF A LINE: what comes of its form, if it has one

abbrev pub ComesOf : State → Option Form → Result Answer ConsoleFault → State → Type 0
ComesOf s (Some f) r t = Comes s f r t
ComesOf s None r t = (r ≡ Err fault.Text) × (t ≡ s)

-- the engine that is fitted then, where the line names one
abbrev pub Fitted : Form → Result Answer ConsoleFault → EngineName → Type 0
Fitted (form.Meter x) (Ok a) engine = engine ≡ x.engine
Fitted (form.Meter x) (Err e) engine = Unit {0}
Fitted (form.Compute c) r engine = Unit {0}
Fitted (form.Command w) r engine = Unit {0}
Fitted (form.Poll p) r engine = Unit {0}
Fitted (form.Try c) r engine = Unit {0}

abbrev pub FittedOf : Option Form → Result Answer ConsoleFault → EngineName → Type 0
FittedOf (Some f) r engine = Fitted f r engine
FittedOf None r engine = Unit {0}

-- No line has two forms.
pub record Responds (s : State) (line : List ℕ) (r : Result Answer ConsoleFault) (t : State) (engine : EngineName) : Type 0 where
  pub form : Option Form
  pub reads : Reads text Good line form
  pub comes : ComesOf s form r t
  pub fitted : FittedOf form r engine

-- what is written of it
abbrev pub told : Result Answer ConsoleFault → Answer
told (Ok a) = a
told (Err e) = says.Refused (number e)

-- The text of the answer stands in the buffer, before what it held.
pub record Answered (s : State) (line held : List ℕ) (t : State) (engine : EngineName) (end : ℕ) (out : List ℕ) : Type 0 where
  pub result : Result Answer ConsoleFault
  pub responds : Responds s line result t engine
  pub ends : end ≡ length (answer_text (told result))
  pub holds : out ≡ answer_text (told result) ++ drop (length (answer_text (told result))) held

-- a new session
abbrev pub begun : State
begun = record { ready = false; meter = fresh 1; log = none; rule = Even; flags = 0 }
