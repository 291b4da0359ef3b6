-- Each call has a digit less to write.
use Rattle.answers.proofs.texts.Text.+hexadecimal.Given as goal

abbrev pub decreases-hexadecimal : goal.decreases-hexadecimal
decreases-hexadecimal l = l.count
