use Rattle.std.proofs.Common.{take, ◌∙◌}
use Rattle.places.proofs.Reaching.{any_set}
use Rattle.places.proofs.leading.any_below.Goals as goal

pub returns : goal.returns
returns c = c.contains.ensures.value ∙ any_set (take c.args.left c.args.bits.now.digits)
