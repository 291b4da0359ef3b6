use Rattle.std.proofs.Common.{◌*◌, ◌^◌, Bool, Option, sym, ap, ◌∙◌, subst}
use Rattle.std.proofs.lemmas.Nat.{pow_pos, mul-le}
use Rattle.rounding.specs.Format.{binary32}
use Rattle.rounding.specs.Rounding.{Outcome, rounded}
use Rattle.arithmetic.specs.Defined.{Gives}
use Rattle.window.specs.declared.ask.Ask.{Ask}
use Rattle.window.specs.Due.{Due}
use Rattle.means.proofs.Sums.{zero_sum, no_ask_log, ask_log}
use Rattle.means.proofs.answering.answer_ask.Goals as goal

pub returns-in-None : goal.returns-in-None
returns-in-None g c =
    let m = g.R.Rule.meaning c.args.rule.now in
    record {
      answer =
          λ sign s n u np no_sign due.
          let z = subst (λ (k : Option Ask). Due sign s n u k) c.in-None.is due in
          let e = zero_sum m sign s (n * 2 ^ u) (g.met.R.Rule.lawful c.args.rule.now) (mul-le 1 1 n (2 ^ u) np (pow_pos u)) z (no_sign z) in
          (c.zero.ensures ∙ sym (ap (λ (o : Outcome). o.bits) e), c.none.ensures ∙ sym (ap (λ (o : Outcome). o.flags) e));
      after = λ sign s n u np nl due. no_ask_log (g.E.Engine.logged c.args.engine.now) s n (subst (λ (k : Option Ask). Due sign s n u k) c.in-None.is due);
    }

pub returns-in-Some : goal.returns-in-Some
returns-in-Some g c =
    let m = g.R.Rule.meaning c.args.rule.now in
    record {
      answer =
          λ sign s n u np no_sign due.
          let d = subst (λ (k : Option Ask). Due sign s n u k) c.in-Some.is due in
          subst (λ (b : Bool). Gives c.divide_sum.result (rounded binary32 m (record { negative = b; num = s; den = n * 2 ^ u }))) d.1
          (c.divide_sum.ensures.answer s n u np d.3);
      after =
          λ sign s n u np nl due.
          let d = subst (λ (k : Option Ask). Due sign s n u k) c.in-Some.is due in
          c.divide_sum.ensures.after ∙ ask_log (g.E.Engine.logged c.args.engine.now) s n c.in-Some.ask.question.divisor c.in-Some.ask.question.dividend d.0 np nl d.2;
    }
