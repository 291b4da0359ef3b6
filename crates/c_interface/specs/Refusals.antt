-- The refusals that only a C caller can run into, beside the library's own.
use Rattle.std.specs.Prelude.{ℕ, Some, None, Option, Ok, Err, Result}
use Rattle.meter.specs.declared.fault.MeterFault.{MeterFault}
use Rattle.meter.specs.Faults.{number as fault_number}
use Rattle.c_interface.specs.declared.refusal.Unknown.{Unknown}
use Rattle.c_interface.specs.declared.refusal.Unknown.TheVariants.{Engine, Rule, Meter, Poll}
use Rattle.c_interface.specs.declared.refusal.Refusal.{Refusal}
use Rattle.c_interface.specs.declared.refusal.Refusal.TheVariants as refusals

abbrev pub number : Unknown → ℕ
number Engine = 101
number Rule = 102
number Meter = 103
number Poll = 104

abbrev pub refusal_number : Refusal → ℕ
refusal_number (refusals.Unknown u) = number u
refusal_number (refusals.Fault fault) = fault_number fault

-- a fault of the library, as a refusal
abbrev pub carried : Option MeterFault → Option Refusal
carried None = None
carried (Some fault) = Some (refusals.Fault fault)

-- what is made of a thing where it is there, and what where it is not
abbrev pub found : {A B : Type 0} → Option A → B → (A → B) → B
found None missing made = missing
found (Some x) missing made = made x

-- what C is told of a result: the answer, or what is made of the refusal
abbrev pub answered : {B : Type 0} → Result B Refusal → (Refusal → B) → B
answered (Ok answer) refused = answer
answered (Err refusal) refused = refused refusal
