use Rattle.std.proofs.Common.{ℕ, suc, length, ap, subst, arith}
use Rattle.window.specs.Ring.{standing_in}
use Rattle.window.specs.Window.{standing}
use Rattle.window.specs.Words.{Tells}
use Rattle.window.proofs.Facts.{standing_few}
use Rattle.window.proofs.Holding.{AllFinite, tells_older, tells_roomy}
use Rattle.window.proofs.window.Window.retire.Goals as goal

pub without-words-requires-clause-finite : goal.without-words-requires-clause-finite
without-words-requires-clause-finite c =
    let all = subst AllFinite (rw c.in_ok-gone.ensures.ok_part at c.without_oldest.ensures) c.args.self.now.held.0 in all 0

pub without-words-requires-clause-roomy : goal.without-words-requires-clause-roomy
without-words-requires-clause-roomy c =
    let w = c.args.self.now in tells_roomy w.words (standing w) w.held.1 (standing_few w)

pub invariant_of-self : goal.invariant_of-self
invariant_of-self c =
    let w = c.args.self.now in
    let left = rw c.in_ok-gone.ensures.ok_part at c.without_oldest.ensures in
    let all = subst AllFinite left w.held.0 in
    record {
      held = (
        λ (k : ℕ). all (suc k),
        tells_older c.without-words.result w.words c.in_ok-gone.gone (standing_in c.in_ok-gone.ring) c.without-words.ensures (subst (Tells w.words) left w.held.1),
      );
    }

pub returns-clause-result : goal.returns-clause-result
returns-clause-result c =
    let w = c.args.self.now in
    let long = ap length (rw c.in_ok-gone.ensures.ok_part at c.without_oldest.ensures) in
    (omega (arith, long, c.count.ensures.stands), omega (arith, long, c.count.ensures.stands, standing_few w))
