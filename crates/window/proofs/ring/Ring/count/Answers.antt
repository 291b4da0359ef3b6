use Rattle.std.proofs.Common.{refl, sym}
use Rattle.window.proofs.Turning.{ringed_length}
use Rattle.window.proofs.ring.Ring.count.Goals as goal

pub returns : goal.returns
returns c = record { is = refl; stands = sym (ringed_length c.args.self.now.cells c.args.self.now.start c.args.self.now.count) }
