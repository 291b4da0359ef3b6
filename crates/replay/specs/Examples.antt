-- Worked examples, computed from the definitions that the contracts use: encodings with their flags, and the edges of what is refused.
use Rattle.std.specs.Prelude.{◌≡◌, ℕ, true, [], ◌∷◌, replicate, Some, None}
use Rattle.rounding.specs.declared.encoding.Encoding.{Encoding}
use Rattle.rounding.specs.Format.{binary32}
use Rattle.rounding.specs.Rules.{even_rule, zero_rule, up_rule}
use Rattle.arithmetic.specs.Defined.{quotient, square, plain}
use Rattle.means.specs.Defined.{mean}
use Rattle.window.specs.declared.fault.WindowFault.TheVariants.{Full}
use Rattle.meter.specs.declared.fault.MeterFault.TheVariants.{Window, Address, LastAttempt}
use Rattle.meter.specs.Addresses.{refuses_address}
use Rattle.meter.specs.Faults.{number}
use Rattle.meter.specs.Model.{Model, refuses_repeat, refuses_reply}

abbrev pub one : Encoding
one = record { bits = 0x3F800000 }

abbrev pub two : Encoding
two = record { bits = 0x40000000 }

-- a meter that waits for a reply while n others stand
abbrev pub waiting : ℕ → Model
waiting n = record { address = 17; pending = true; replies = replicate n one }

pub record Examples : Type 0 where
  -- a number by zero
  pub by_zero : quotient binary32 even_rule 0xBF800000 0x00000000 ≡ plain 0xFF800000 2
  -- half of the smallest subnormal: a tie that goes to the even zero
  pub tie_to_zero : quotient binary32 even_rule 0x00000001 0x40000000 ≡ plain 0x00000000 24
  -- half of three of them: a tie that goes to the even two
  pub tie_to_two : quotient binary32 even_rule 0x00000003 0x40000000 ≡ plain 0x00000002 24
  -- tiny before rounding, normal after it
  pub to_normal : quotient binary32 even_rule 0x00FFFFFF 0x40000000 ≡ plain 0x00800000 24
  -- an overflow that stays finite
  pub stays_finite : quotient binary32 zero_rule 0x7F7FFFFF 0x3F000000 ≡ plain 0x7F7FFFFF 20
  pub upward : square binary32 up_rule 0x3F800001 ≡ plain 0x3F800003 16
  pub below_overflow : square binary32 even_rule 0x5F7FFFFF ≡ plain 0x7F7FFFFE 16
  pub overflows : square binary32 even_rule 0x5F800000 ≡ plain 0x7F800000 20
  pub mean_of_three : mean even_rule (one ∷ one ∷ two ∷ []) ≡ plain 0x3FAAAAAB 16
  -- addresses
  pub least_address : refuses_address 1 ≡ None
  pub greatest_address : refuses_address 247 ≡ None
  pub address_below : refuses_address 0 ≡ Some Address
  pub address_above : refuses_address 248 ≡ Some Address
  pub address_number : number Address ≡ 2
  -- the 288th reply stands, the next one is refused
  pub last_reply : refuses_reply (waiting 287) 17 one ≡ None
  pub reply_too_many : refuses_reply (waiting 288) 17 one ≡ Some (Window Full)
  pub full_number : number (Window Full) ≡ 7
  -- two repeats pass, a third is refused
  pub first_repeat : refuses_repeat (waiting 0) 17 1 ≡ None
  pub second_repeat : refuses_repeat (waiting 0) 17 2 ≡ None
  pub third_repeat : refuses_repeat (waiting 0) 17 3 ≡ Some LastAttempt
  pub last_number : number LastAttempt ≡ 9
