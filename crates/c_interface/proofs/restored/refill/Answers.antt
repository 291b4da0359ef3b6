use Rattle.std.proofs.Common.{ℕ, List, length, sym, ap, ◌∙◌, arith, rules}
use Rattle.std.proofs.lemmas.Result.{err_from_is_err_and}
use Rattle.rounding.specs.Format.{binary32, is_finite}
use Rattle.rounding.specs.declared.rules.AnyRule.{AnyRule}
use Rattle.engine_choice.specs.declared.AnyEngine.{AnyEngine}
use Rattle.meter.specs.Meters.{Seen}
use Rattle.meter.specs.Model.{Model, polled}
use Rattle.c_interface.specs.Held.{all_finite}
use Rattle.c_interface.proofs.Cells.{taken_length, finite_stops, taken_finite, refused_infinite, refilled_more}
use Rattle.c_interface.proofs.restored.refill.Goals as goal

pub loop-bits-init : goal.loop-bits-init
unfolding all_finite
loop-bits-init c = search rules

pub returns-in_err-reply-clause-after : goal.returns-in_err-reply-clause-after
returns-in_err-reply-clause-after c =
    let p = err_from_is_err_and c.from_residual-in_err-reply.result c.from_residual-in_err-reply.ensures.1 in
    let ns : List ℕ = c.args.replies.now in
    let i : ℕ = c.loop-bits.bits-index in
    let m = c.poll.new.self.model in
    let begun = rw c.in_ok-poll.ensures.result.0 at c.poll.ensures.after in
    let waits = ap (λ (s : Seen AnyEngine AnyRule). s.model) begun ∙ ap (λ (m : Model). polled m) c.loop-bits.invariant.taken in
    let short = taken_length ns i (omega arith) in
    let back = c.in_err-reply.field-0.0 in
    let infinite = refused_infinite m c.in_ok-poll.poll.address c.from_bits.result back.fault (ap (λ (m : Model). m.pending) waits) (search rules) (omega (arith, ap (λ (m : Model). length m.replies) waits)) c.in_err-reply.ensures.result.0 in
    rw p.1 (finite_stops ns i c.loop-bits-test.true (ap (λ (v : ℕ). is_finite binary32 v) (sym c.from_bits.ensures) ∙ infinite))

pub loop-bits-preserved : goal.loop-bits-preserved
loop-bits-preserved c =
    let ns : List ℕ = c.args.replies.now in
    let i : ℕ = c.loop-bits.bits-index in
    let m = c.poll.new.self.model in
    let begun = rw c.in_ok-poll.ensures.result.0 at c.poll.ensures.after in
    let waits = ap (λ (s : Seen AnyEngine AnyRule). s.model) begun ∙ ap (λ (m : Model). polled m) c.loop-bits.invariant.taken in
    let short = taken_length ns i (omega arith) in
    let none = c.in_ok-reply.ensures.result.0 in
    let finite = taken_finite m c.in_ok-poll.poll.address c.from_bits.result (ap (λ (m : Model). m.pending) waits) (search rules) (omega (arith, ap (λ (m : Model). length m.replies) waits)) none in
    let more = refilled_more ns i c.args.meter.now.model.address m c.reply.new.self.model c.from_bits.result c.loop-bits-test.true c.loop-bits.invariant.finite waits (ap (λ (s : Seen AnyEngine AnyRule). s.model) (rw none at c.reply.ensures.after)) c.from_bits.ensures finite in
    record { finite = more.0; taken = more.1; engine = search rules; rule = search rules }
