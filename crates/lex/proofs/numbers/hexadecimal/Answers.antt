-- Eight digits have eight bytes.
use Rattle.std.proofs.Common.{length, ap, ◌∙◌}
use Rattle.lex.proofs.Places.{length_digits}
use Rattle.lex.proofs.numbers.hexadecimal.Goals as goal

pub returns-then-word-ne8 : goal.returns-then-word-ne8
returns-then-word-ne8 c = λ n good e. c.if-word-ne8.true (ap length e ∙ length_digits 16 8 n)
