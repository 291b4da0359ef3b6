use Rattle.places.proofs.Asked.{asks_only}
use Rattle.places.proofs.laws.one_pair_is_asked.Goals as goal

pub returns : goal.returns
returns c = asks_only
