-- The loop takes one repeat off at each turn; what it leaves is no repeat.
use Rattle.std.proofs.Common.{codes, sym, refl, ap, ◌∙◌, arith}
use Rattle.forms.proofs.Repeats.{ending_ends, poll_longer, repeated_more, repeated_same, shorter}
use Rattle.forms.proofs.polls.read_poll.Goals as goal
use Rattle.forms.specs.Polls.{ending, repeated}
use Rattle.lex.proofs.Cuts.{group_same}

pub loop-inner-init : goal.loop-inner-init
unfolding repeated
loop-inner-init c = (
  refl,
  omega (arith, poll_longer c.args.line.now c.in_ok-rest.rest.now c.in_ok-rest.ensures.1),
)

pub loop-inner-preserved : goal.loop-inner-preserved
loop-inner-preserved c = (
  c.loop-inner.invariant.0 ∙ ap (repeated c.loop-inner.again) c.in-Some.ensures.1 ∙ repeated_more c.loop-inner.again c.in-Some.inner.now,
  omega (arith, shorter c.loop-inner.rest.now c.in-Some.inner.now c.in-Some.ensures.1),
)

pub returns-in_err-read_ending : goal.returns-in_err-read_ending
returns-in_err-read_ending c =
    rw c.from_residual-in_err-read_ending.ensures (
    λ p good e.
    let inner =
    group_same (codes "(poll ") c.in_ok-rest.rest.now (repeated p.again (ending p.ending)) (
    sym c.in_ok-rest.ensures.1 ∙ e
    )
    in
    c.in_err-read_ending.ensures p.ending good (repeated_same c.loop-inner.again p.again c.loop-inner.rest.now (ending p.ending) (λ x. c.in_default.ensures x tt) (ending_ends p.ending) (
    sym c.loop-inner.invariant.0 ∙ inner
    )).1
    )
