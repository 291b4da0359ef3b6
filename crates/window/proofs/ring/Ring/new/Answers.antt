use Rattle.std.proofs.Common.{refl}
use Rattle.window.specs.Ring.{ringed}
use Rattle.window.proofs.ring.Ring.new.Goals as goal

pub returns : goal.returns
unfolding ringed
returns c = refl
