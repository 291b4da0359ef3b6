use Rattle.std.proofs.Common.{◌∙◌, get_or}
use Rattle.places.specs.Spread.{taken}
use Rattle.places.proofs.Spreading.{spread_same, taken_plain}
use Rattle.places.proofs.sums.sum_of_squares.Goals as goal

pub returns : goal.returns
returns c =
    let ws = c.args.words.now in
    c.spread_sum.ensures.sum ∙ spread_same 2 (taken (λ w. w) ws) (λ k. get_or ws k 0) 255 (λ k _. taken_plain ws k)
