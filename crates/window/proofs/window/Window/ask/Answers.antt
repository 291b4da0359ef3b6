use Rattle.std.proofs.Common.{◌<◌, ℕ, ℤ, length, refl, ◌∙◌, arith}
use Rattle.places.specs.Spread.{spread, ups, downs}
use Rattle.window.specs.Replies.{total}
use Rattle.window.specs.Window.{standing}
use Rattle.window.proofs.Totals.{sums_total, squares_total, size_is, sign_is, due_at}
use Rattle.window.proofs.window.Window.ask.Goals as goal

pub returns-in-Mean : goal.returns-in-Mean
returns-in-Mean c =
    let w = c.args.self.now in
    let z : ℤ = total (standing w) in
    let u : ℕ = spread 1 (ups w.words.sums) 255 in
    let d : ℕ = spread 1 (downs w.words.sums) 255 in
    let e = sums_total w.words (standing w) w.held.1 w.held.0 in
    let some : 0 < length (standing w) = omega arith in
    rw c.in-Mean.is
    (some, due_at 149 c.of.result (c.sum-sum.ensures.sign ∙ sign_is u d z e) (c.sum-sum.ensures.size ∙ size_is u d z e) c.count-count.ensures.stands c.of.ensures)

pub returns-in-MeanSquare : goal.returns-in-MeanSquare
returns-in-MeanSquare c =
    let w = c.args.self.now in
    let e = squares_total w.words (standing w) w.held.1 w.held.0 in
    let some : 0 < length (standing w) = omega arith in
    rw c.in-MeanSquare.is
    (some, due_at 298 c.of-in-MeanSquare.result refl (c.sum_of_squares-sum.ensures ∙ e) c.count-count.ensures.stands c.of-in-MeanSquare.ensures)
