use Rattle.std.proofs.Common.{◌∙◌, sym, ap, Some, arith}
use Rattle.std.proofs.lemmas.Option.{slice_get-get_or, slice_get_past}
use Rattle.rounding.specs.declared.encoding.Encoding.{Encoding}
use Rattle.window.specs.Ring.{blank, standing_in}
use Rattle.window.proofs.Turning.{ringed_length}
use Rattle.window.proofs.ring.Ring.get.Goals as goal

pub returns-then-i-self : goal.returns-then-i-self
returns-then-i-self c =
    let r = c.args.self.now in
    ap (λ (e : Encoding). Some e) c.at.ensures ∙ sym (slice_get-get_or (standing_in r) c.args.i blank (omega (arith, ringed_length r.cells r.start r.count)))

pub returns-else-i-self : goal.returns-else-i-self
returns-else-i-self c =
    let r = c.args.self.now in
    sym (slice_get_past (standing_in r) c.args.i (omega (arith, ringed_length r.cells r.start r.count)))
