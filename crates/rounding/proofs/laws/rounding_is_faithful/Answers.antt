use Rattle.rounding.proofs.Faithful.{keeps_values, neighbours, same_answers, rising_answers}
use Rattle.rounding.proofs.laws.rounding_is_faithful.Goals as goal

pub returns : goal.returns
returns c = record { kept = keeps_values; neighbours = neighbours; same = same_answers; rising = rising_answers }
