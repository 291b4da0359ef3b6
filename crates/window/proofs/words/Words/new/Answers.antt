use Rattle.std.proofs.Common.{pos}
use Rattle.window.specs.Replies.{sum_z}
use Rattle.window.proofs.Adding.{of_none}
use Rattle.window.proofs.words.Words.new.Goals as goal

pub returns : goal.returns
unfolding sum_z
returns c k = (of_none 255 (pos 0) k, of_none 255 0 k)
