use Rattle.std.proofs.Common.{◌≡◌, ℕ, true, eqb, List, refl, sym, ap, ◌∙◌, arith, rules}
use Rattle.engine_choice.specs.Choice.{named}
use Rattle.engine_choice.specs.declared.AnyEngine.{AnyEngine}
use Rattle.rounding.specs.declared.encoding.Encoding.{Encoding}
use Rattle.rounding.specs.declared.rules.AnyRule.{AnyRule}
use Rattle.meter.specs.Meters.{Seen}
use Rattle.c_interface.specs.Held.{is_meter, all_finite, encodings}
use Rattle.c_interface.proofs.Restoring.{no_meter, not_finite, sound, restores}
use Rattle.c_interface.proofs.restored.restored.Goals as goal

pub returns-in-Err-clause-held : goal.returns-in-Err-clause-held
returns-in-Err-clause-held c =
    let d = c.args.numbers.now in
    let read = ap (λ (l : List ℕ). all_finite (encodings l)) c.in-Ok.ensures.3 in
    (no_meter d (not_finite d (sym read ∙ c.in-Err.ensures.after)), search rules)

pub returns-in-Ok-refill-clause-held : goal.returns-in-Ok-refill-clause-held
returns-in-Ok-refill-clause-held c =
    let d = c.args.numbers.now in
    let p = c.in-Ok.ensures in
    let read = ap (λ (l : List ℕ). encodings l) p.3 in
    let new = c.new-meter.ensures in
    let at : c.new-meter.result.model.address ≡ d.address = ap (λ (s : Seen AnyEngine AnyRule). s.model.address) new ∙ p.2 in
    let filled = c.in-Ok-refill.ensures.after in
    let finite = ap (λ (l : List Encoding). all_finite l) (sym read) ∙ filled.0 in
    let fitted : named c.refill.new.meter.engine ≡ c.in-Ok.field-0.engine = ap (λ (e : AnyEngine). named e) (c.refill.ensures.engine ∙ ap (λ (s : Seen AnyEngine AnyRule). s.engine) new) ∙ c.new.ensures.which in
    let ruled = c.refill.ensures.rule ∙ ap (λ (s : Seen AnyEngine AnyRule). s.rule) new in
    let is : is_meter d ≡ true = sound d (omega (arith, p.2, c.in-Ok.field-0.address.valid.0)) (omega (arith, p.2, c.in-Ok.field-0.address.valid.1)) (omega (arith, p)) (omega (arith, p)) finite in
    restores d c.in-Ok.field-0.engine c.in-Ok.field-0.rule c.new-meter.result.model.address (eqb d.pending 1) (encodings c.in-Ok.field-0.replies.now) c.refill.new.meter.model (named c.refill.new.meter.engine) c.refill.new.meter.rule
    p.0 p.1 is filled.1 at refl read fitted ruled
