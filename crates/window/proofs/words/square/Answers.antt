use Rattle.window.specs.Replies.{square_of}
use Rattle.window.proofs.words.square.Goals as goal

pub returns : goal.returns
unfolding square_of
returns c = rw c.significand-size.ensures
