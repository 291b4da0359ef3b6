-- What a calculation comes to, and which it refuses.
use Rattle.std.specs.Prelude.{None, Option}
use Rattle.arithmetic.specs.Defined.{quotient, quotient_log, square}
use Rattle.means.specs.Defined.{mean, mean_square, mean_log, mean_square_log}
use Rattle.engines.specs.declared.meaning.Log.{Log}
use Rattle.forms.specs.declared.Calculation.{Calculation}
use Rattle.forms.specs.declared.Calculation.TheVariants.{Divide, Square, Mean, MeanSquare}
use Rattle.meter.specs.Model.{Model, refuses_empty}
use Rattle.meter.specs.declared.fault.MeterFault.{MeterFault}
use Rattle.rounding.specs.Format.{binary32}
use Rattle.rounding.specs.Rounding.{Outcome}
use Rattle.rounding.specs.Rules.{rule_of}
use Rattle.rounding.specs.declared.rules.AnyRule.{AnyRule}

abbrev pub refuses_calculation : Model → Calculation → Option MeterFault
refuses_calculation m (Divide dividend divisor) = None
refuses_calculation m (Square operand) = None
refuses_calculation m Mean = refuses_empty m
refuses_calculation m MeanSquare = refuses_empty m

-- the encoding and the flags, where it is not refused
abbrev pub outcome : AnyRule → Model → Calculation → Outcome
outcome r m (Divide dividend divisor) = quotient binary32 (rule_of r) dividend divisor
outcome r m (Square operand) = square binary32 (rule_of r) operand
outcome r m Mean = mean (rule_of r) m.replies
outcome r m MeanSquare = mean_square (rule_of r) m.replies

-- the engine's meaning after it
abbrev pub log_after : Log → Model → Calculation → Log
log_after log m (Divide dividend divisor) = quotient_log binary32 log dividend divisor
log_after log m (Square operand) = log
log_after log m Mean = mean_log log m.replies
log_after log m MeanSquare = mean_square_log log m.replies
