use Rattle.std.proofs.Common.{sym, subst, rules}
use Rattle.window.specs.Window.{standing}
use Rattle.window.specs.Words.{Tells}
use Rattle.window.proofs.Facts.{standing_few}
use Rattle.window.proofs.Holding.{AllFinite, finite_more, tells_more, tells_roomy}
use Rattle.window.proofs.window.Window.take_in.Goals as goal

pub with-words-requires-clause-roomy : goal.with-words-requires-clause-roomy
with-words-requires-clause-roomy c =
    let w = c.args.self.now in tells_roomy w.words (standing w) w.held.1 (standing_few w)

pub invariant_of-self : goal.invariant_of-self
invariant_of-self c =
    let w = c.args.self.now in
    let more = (rw c.in_ok-ring.ensures.ok_part at c.with_newest.ensures).1 in
    record {
      held = (
        subst AllFinite (sym more) (finite_more (standing w) c.encoding-reply.result w.held.0 (search rules)),
        subst (Tells c.with-words.result) (sym more) (tells_more w.words c.with-words.result c.encoding-reply.result (standing w) c.with-words.ensures w.held.1),
      );
    }
