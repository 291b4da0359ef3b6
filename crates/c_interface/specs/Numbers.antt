-- Engines and rules by number, and the answers of quotient and square.
use Rattle.std.specs.Prelude.{ℕ, cond, Some, None, Option, ◌==◌}
use Rattle.rounding.specs.declared.encoding.Encoding.{Encoding}
use Rattle.rounding.specs.Format.{binary32}
use Rattle.rounding.specs.Rounding.{Outcome}
use Rattle.rounding.specs.Rules.{rule_of}
use Rattle.rounding.specs.declared.rules.AnyRule.{AnyRule}
use Rattle.rounding.specs.declared.rules.AnyRule.TheVariants.{Even, Away, Zero, Up, Down}
use Rattle.engine_choice.specs.declared.EngineName.{EngineName}
use Rattle.engine_choice.specs.declared.EngineName.TheVariants.{Digits, Radix4, Cubic}
use Rattle.arithmetic.specs.Defined.{quotient, square, quotient_log}
use Rattle.engines.specs.declared.meaning.Log.{Log}
use Rattle.engines.specs.Meaning.{none}
use Rattle.c_interface.specs.declared.answer.Asked.{Asked}
use Rattle.c_interface.specs.declared.answer.NumberAnswer.{NumberAnswer}
use Rattle.c_interface.specs.declared.answer.NewestAnswer.{NewestAnswer}
use Rattle.c_interface.specs.declared.refusal.Unknown.TheVariants as unknown
use Rattle.c_interface.specs.declared.refusal.Refusal.{Refusal}
use Rattle.c_interface.specs.declared.refusal.Refusal.TheVariants.{Unknown}
use Rattle.c_interface.specs.Refusals.{refusal_number, found}

abbrev pub engine_numbered : ℕ → Option EngineName
engine_numbered n =
    cond (n == 0) (Some Digits) (cond (n == 1) (Some Radix4) (cond (n == 2) (Some Cubic) None))

abbrev pub rule_numbered : ℕ → Option AnyRule
rule_numbered n =
    cond (n == 0) (Some Even) (cond (n == 1) (Some Away) (cond (n == 2) (Some Zero)
    (cond (n == 3) (Some Up) (cond (n == 4) (Some Down) None))))

-- what an engine was asked
abbrev pub asked_of : Log → Asked
asked_of log = record { estimates = log.estimates; divisor = log.divisor; dividend = log.dividend }

-- a defined outcome, with what the call's own engine was asked for it
abbrev pub number_of : Outcome → Log → NumberAnswer
number_of o log = record { bits = o.bits; flags = o.flags; refused = 0; asked = asked_of log }

-- refused with this number: all others are 0
abbrev pub number_refused : ℕ → NumberAnswer
number_refused n = record { bits = 0; flags = 0; refused = n; asked = asked_of none }

abbrev pub number_refusal : Refusal → NumberAnswer
number_refusal r = number_refused (refusal_number r)

-- a number that names no engine is refused first, and then one that names no rule
abbrev pub quotient_answer : ℕ → ℕ → ℕ → ℕ → NumberAnswer
quotient_answer engine rule x y =
    found (engine_numbered engine) (number_refusal (Unknown unknown.Engine)) (λ e.
    found (rule_numbered rule) (number_refusal (Unknown unknown.Rule)) (λ r.
    number_of (quotient binary32 (rule_of r) x y) (quotient_log binary32 none x y)))

abbrev pub square_answer : ℕ → ℕ → NumberAnswer
square_answer rule x = found (rule_numbered rule) (number_refusal (Unknown unknown.Rule)) (λ r. number_of (square binary32 (rule_of r) x) none)

-- an accepted answer of the newest reply, where one stands
abbrev pub newest_told : Option Encoding → NewestAnswer
newest_told o =
    found o (record { bits = 0; present = 0; refused = 0 }) (λ x.
    record { bits = x.bits; present = 1; refused = 0 })
