use Rattle.std.proofs.Common.{◌<◌, List, ◌∷◌, sym, ap, ◌∙◌, arith}
use Rattle.rounding.specs.declared.encoding.Encoding.{Encoding}
use Rattle.window.specs.Ring.{standing_in}
use Rattle.window.proofs.Turning.{ringed_length, nth_stands, first_stands, none_stands, ringed_older}
use Rattle.window.proofs.ring.Ring.without_oldest.Goals as goal

pub returns-in_err-oldest : goal.returns-in_err-oldest
returns-in_err-oldest c = rw c.from_residual.ensures (none_stands (standing_in c.args.self) (sym c.get.ensures ∙ c.in_err-oldest.was))

pub overflow_sub-ring : goal.overflow_sub-ring
overflow_sub-ring c =
    let r = c.args.self in
    omega (arith, ringed_length r.cells r.start r.count, (nth_stands (standing_in r) 0 c.in_ok-oldest.oldest (sym c.get.ensures ∙ c.in_ok-oldest.was)).0)

pub returns : goal.returns
returns c =
    let r = c.args.self in
    let got = sym c.get.ensures ∙ c.in_ok-oldest.was in
    let some : 0 < r.count = omega (arith, ringed_length r.cells r.start r.count, (nth_stands (standing_in r) 0 c.in_ok-oldest.oldest got).0) in
    first_stands (standing_in r) c.in_ok-oldest.oldest got ∙ rw c.cell.ensures (ap (λ (xs : List Encoding). c.in_ok-oldest.oldest ∷ xs) (sym (ringed_older r.cells r.start r.count some)))
