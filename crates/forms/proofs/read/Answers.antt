-- A line that is too long has no form; and no line has two.
use Rattle.std.proofs.Common.{length, ap, arith}
use Rattle.forms.proofs.Once.{one_form}
use Rattle.forms.proofs.read.Goals as goal

pub returns-then-line-gt-LONGEST : goal.returns-then-line-gt-LONGEST
returns-then-line-gt-LONGEST c = record { reads = λ f good e. omega (arith, ap length e, good.1); one = one_form }

pub returns-else-line-gt-LONGEST : goal.returns-else-line-gt-LONGEST
returns-else-line-gt-LONGEST c = record { reads = c.read_short.ensures; one = one_form }
