-- What a call on C's numbers answers: the reference model decides, where the numbers stand for a meter.
use Rattle.std.specs.Prelude.{◌≡◌, ℕ, ◌+◌, ◌-◌, not, length, replicate, Some, None, Option}
use Rattle.rounding.specs.Rules.{rule_of}
use Rattle.means.specs.Defined.{mean, mean_square, mean_log, mean_square_log}
use Rattle.window.specs.Peak.{Peaks}
use Rattle.window.specs.Window.{newest_of}
use Rattle.engines.specs.Meaning.{none}
use Rattle.meter.specs.declared.fault.MeterFault.{MeterFault}
use Rattle.meter.specs.Addresses.{refuses_address}
use Rattle.meter.specs.Model.{Model, fresh, first, unless, refuses_poll, refuses_repeat, refuses_reply, refuses_lapse, refuses_empty, polled, replied, lapsed, retired, retracted}
use Rattle.replay.specs.declared.step.SeenPoll.{SeenPoll}
use Rattle.named_polls.specs.Numbers.{is_poll}
use Rattle.c_interface.specs.declared.answer.MeterAnswer.{MeterAnswer}
use Rattle.c_interface.specs.declared.answer.PollAnswer.{PollAnswer}
use Rattle.c_interface.specs.declared.answer.RepeatAnswer.{RepeatAnswer}
use Rattle.c_interface.specs.declared.answer.ReplyAnswer.{ReplyAnswer}
use Rattle.c_interface.specs.declared.answer.CountAnswer.{CountAnswer}
use Rattle.c_interface.specs.declared.answer.NumberAnswer.{NumberAnswer}
use Rattle.c_interface.specs.declared.answer.PeakAnswer.{PeakAnswer}
use Rattle.c_interface.specs.declared.answer.NewestAnswer.{NewestAnswer}
use Rattle.window.specs.declared.average.Average.{Average}
use Rattle.window.specs.declared.average.Average.TheVariants.{Mean, MeanSquare}
use Rattle.c_interface.specs.declared.replies.End.{End}
use Rattle.c_interface.specs.declared.replies.End.TheVariants.{Oldest, Newest}
use Rattle.c_interface.specs.declared.data.MeterData.{MeterData}
use Rattle.c_interface.specs.declared.refusal.Unknown.TheVariants as unknown
use Rattle.c_interface.specs.declared.refusal.Refusal.{Refusal}
use Rattle.c_interface.specs.declared.refusal.Refusal.TheVariants.{Unknown}
use Rattle.c_interface.specs.Refusals.{number, refusal_number, carried, found}
use Rattle.c_interface.specs.Numbers.{engine_numbered, rule_numbered, number_of, number_refusal, newest_told}
use Rattle.c_interface.specs.Held.{Held, held, shown}

-- a refusal's answer, or the accepted one
abbrev pub judged : {B F : Type 0} → Option F → (F → B) → B → B
judged None refused accepted = accepted
judged (Some r) refused accepted = refused r

-- a call on a meter: first of all the numbers have to stand for one
abbrev pub on_meter : {B : Type 0} → MeterData → (Refusal → B) → (Model → Option Refusal) → (Held → B) → B
on_meter d refused refuses accepted = found (held d) (refused (Unknown unknown.Meter)) (λ h. judged (refuses h.model) refused (accepted h))

-- then a poll that is given has to be one
abbrev pub of_poll : SeenPoll → Option MeterFault → Option Refusal
of_poll p rest = first (not (is_poll p)) (Unknown unknown.Poll) (carried rest)

-- what C's numbers stand for after a call: the model as the call leaves it
abbrev pub next : {F : Type 0} → MeterData → (Model → Option F) → (Model → Model) → Option Held
next d refuses after =
    found (held d) None (λ h.
    Some (record { model = unless (refuses h.model) (after h.model) h.model; engine = h.engine; rule = h.rule }))

-- a meter at rest, with nothing standing
abbrev pub empty : ℕ → ℕ → ℕ → MeterData
empty address engine rule = record { replies = replicate 288 0; standing = 0; address = address; engine = engine; rule = rule; pending = 0 }

-- no meter and no poll: all numbers 0
abbrev pub no_meter : MeterData
no_meter = empty 0 0 0

abbrev pub no_poll : SeenPoll
no_poll = record { address = 0; attempt = 0 }

-- refused calls: what was given comes back, and all else is 0
abbrev pub new_refused : Refusal → MeterAnswer
new_refused r = record { meter = no_meter; refused = refusal_number r }

abbrev pub poll_refused : MeterData → Refusal → PollAnswer
poll_refused d r = record { meter = d; poll = no_poll; refused = refusal_number r }

abbrev pub repeat_refused : SeenPoll → Refusal → RepeatAnswer
repeat_refused p r = record { poll = p; refused = refusal_number r }

abbrev pub reply_refused : MeterData → SeenPoll → Refusal → ReplyAnswer
reply_refused d p r = record { meter = d; poll = p; standing = 0; refused = refusal_number r }

abbrev pub lapse_refused : MeterData → Refusal → MeterAnswer
lapse_refused d r = record { meter = d; refused = refusal_number r }

abbrev pub less_refused : MeterData → Refusal → CountAnswer
less_refused d r = record { meter = d; standing = 0; refused = refusal_number r }

abbrev pub no_peak : Refusal → PeakAnswer
no_peak r = record { place = 0; bits = 0; refused = refusal_number r }

-- a new meter: a number that names no engine is refused first, then one that names no rule, then the address
abbrev pub new_answer : ℕ → ℕ → ℕ → MeterAnswer
new_answer address engine rule =
    found (engine_numbered engine) (new_refused (Unknown unknown.Engine)) (λ e.
    found (rule_numbered rule) (new_refused (Unknown unknown.Rule)) (λ r.
    judged (carried (refuses_address address)) new_refused
    (record { meter = empty address engine rule; refused = 0 })))

-- what a new meter's numbers stand for
abbrev pub new_held : ℕ → ℕ → ℕ → Option Held
new_held address engine rule =
    found (engine_numbered engine) None (λ e.
    found (rule_numbered rule) None (λ r.
    judged (refuses_address address) (λ _. None) (Some (record { model = fresh address; engine = e; rule = r }))))

-- the refusals of calls on a meter
abbrev pub poll_refusal : Model → Option Refusal
poll_refusal m = carried (refuses_poll m)

abbrev pub empty_refusal : Model → Option Refusal
empty_refusal m = carried (refuses_empty m)

abbrev pub repeat_refusal : SeenPoll → Model → Option Refusal
repeat_refusal p m = of_poll p (refuses_repeat m p.address p.attempt)

abbrev pub reply_refusal : SeenPoll → ℕ → Model → Option Refusal
reply_refusal p x m = of_poll p (refuses_reply m p.address (record { bits = x }))

abbrev pub lapse_refusal : SeenPoll → Model → Option Refusal
lapse_refusal p m = of_poll p (refuses_lapse m p.address)

abbrev pub poll_answer : MeterData → PollAnswer
poll_answer d =
    on_meter d (poll_refused d) poll_refusal
    (λ h. record { meter = shown d (polled h.model); poll = record { address = h.model.address; attempt = 1 }; refused = 0 })

abbrev pub repeat_answer : MeterData → SeenPoll → RepeatAnswer
repeat_answer d p =
    on_meter d (repeat_refused p) (repeat_refusal p)
    (λ h. record { poll = record { address = p.address; attempt = p.attempt + 1 }; refused = 0 })

abbrev pub reply_answer : MeterData → SeenPoll → ℕ → ReplyAnswer
reply_answer d p x =
    on_meter d (reply_refused d p) (reply_refusal p x)
    (λ h. record { meter = shown d (replied h.model (record { bits = x })); poll = no_poll; standing = length h.model.replies + 1; refused = 0 })

abbrev pub lapse_answer : MeterData → SeenPoll → MeterAnswer
lapse_answer d p =
    on_meter d (lapse_refused d) (lapse_refusal p)
    (λ h. record { meter = shown d (lapsed h.model); refused = 0 })

abbrev pub less_answer : (Model → Model) → MeterData → CountAnswer
less_answer after d =
    on_meter d (less_refused d) empty_refusal
    (λ h. record { meter = shown d (after h.model); standing = length h.model.replies - 1; refused = 0 })

-- a reply goes from one end
abbrev pub less : End → Model → Model
less Oldest = retired
less Newest = retracted

abbrev pub retire_answer : MeterData → CountAnswer
retire_answer d = less_answer retired d

abbrev pub retract_answer : MeterData → CountAnswer
retract_answer d = less_answer retracted d

abbrev pub mean_answer : MeterData → NumberAnswer
mean_answer d = on_meter d number_refusal empty_refusal (λ h. number_of (mean (rule_of h.rule) h.model.replies) (mean_log none h.model.replies))

abbrev pub mean_square_answer : MeterData → NumberAnswer
mean_square_answer d = on_meter d number_refusal empty_refusal (λ h. number_of (mean_square (rule_of h.rule) h.model.replies) (mean_square_log none h.model.replies))

abbrev pub average_answer : Average → MeterData → NumberAnswer
average_answer Mean = mean_answer
average_answer MeanSquare = mean_square_answer

-- the peak is said by what makes it one
abbrev pub PeakAnswers : MeterData → PeakAnswer → Type 0
PeakAnswers d r =
    elim (held d) [
      | None ↦ r ≡ no_peak (Unknown unknown.Meter)
      | Some h ↦
          elim (empty_refusal h.model) [
            | None ↦ Peaks h.model.replies (record { place = r.place; encoding = record { bits = r.bits } }) × (r.refused ≡ 0)
            | Some refusal ↦ r ≡ no_peak refusal
          ]
    ]

-- the newest reply, where one stands
abbrev pub newest_answer : MeterData → NewestAnswer
newest_answer d =
    found (held d) (record { bits = 0; present = 0; refused = number unknown.Meter }) (λ h.
    newest_told (newest_of h.model.replies))
