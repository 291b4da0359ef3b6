use Rattle.std.proofs.Common.{length, ap, ◌∙◌, subst, arith}
use Rattle.std.proofs.lemmas.List.{length_push}
use Rattle.window.specs.Ring.{standing_in}
use Rattle.window.specs.Window.{standing}
use Rattle.window.specs.Words.{Tells}
use Rattle.window.proofs.Facts.{standing_few}
use Rattle.window.proofs.Holding.{AllFinite, finite_newer, tells_newer, tells_roomy}
use Rattle.window.proofs.window.Window.retract.Goals as goal

pub without-words-requires-clause-roomy : goal.without-words-requires-clause-roomy
without-words-requires-clause-roomy c =
    let w = c.args.self.now in tells_roomy w.words (standing w) w.held.1 (standing_few w)

pub invariant_of-self : goal.invariant_of-self
invariant_of-self c =
    let w = c.args.self.now in
    let left = rw c.in_ok-gone.ensures.ok_part at c.without_newest.ensures in
    record {
      held = (
        finite_newer (standing_in c.in_ok-gone.ring) c.in_ok-gone.gone (subst AllFinite left w.held.0),
        tells_newer c.without-words.result w.words c.in_ok-gone.gone (standing_in c.in_ok-gone.ring) c.without-words.ensures (subst (Tells w.words) left w.held.1),
      );
    }

pub returns-clause-result : goal.returns-clause-result
returns-clause-result c =
    let w = c.args.self.now in
    let long = ap length (rw c.in_ok-gone.ensures.ok_part at c.without_newest.ensures) ∙ length_push (standing_in c.in_ok-gone.ring) c.in_ok-gone.gone in
    (omega (arith, long, c.count.ensures.stands), omega (arith, long, c.count.ensures.stands, standing_few w))
