-- The answers of quotient and square where engine and rule are fixed.
use Rattle.rounding.specs.Rounding.{Outcome}
use Rattle.c_interface.specs.declared.fixed.RoundedAnswer.{RoundedAnswer}

abbrev pub rounded_answer : Outcome → RoundedAnswer
rounded_answer o = record { bits = o.bits; flags = o.flags }
