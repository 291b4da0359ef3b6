-- The bytes so far are the digits of the value.
use Rattle.std.proofs.Common.{◌≡◌, ◌^◌, ◌<◌, take}
use Rattle.lex.specs.Numbers.{digits}
use Rattle.lex.proofs.numbers.number.Given as goal

abbrev pub invariant-loop-byte : goal.invariant-loop-byte
invariant-loop-byte l = (l.value < l.base ^ l.byte-index) × (take l.byte-index l.word ≡ digits l.base l.byte-index l.value)
