use Rattle.std.proofs.Common.{◌<◌, length, sym, ◌∙◌, arith, rules}
use Rattle.window.specs.Average.{sum_sign, sum_size, sum_unit}
use Rattle.window.specs.Window.{standing}
use Rattle.window.proofs.Facts.{standing_few}
use Rattle.means.proofs.Sums.{average_is, average_asks, empty_log, zero_sign}
use Rattle.means.proofs.average.average.Goals as goal

pub returns-in_err-ask : goal.returns-in_err-ask
returns-in_err-ask g c =
    let e = sym (empty_log c.args.which (g.E.Engine.logged c.args.engine.now) (standing c.args.window.now) c.in_err-ask.ensures.0) in search rules

pub returns : goal.returns
returns g c =
    let xs = standing c.args.window.now in
    let a = c.args.which in
    let d = c.in_ok-ask.ensures in
    let few : length xs < 16777216 = omega (arith, standing_few c.args.window.now) in
    record {
      result = (d.0, rw (average_is a (g.R.Rule.meaning c.args.rule.now) xs) (c.answer_ask-answer.ensures.answer (sum_sign a xs) (sum_size a xs) (length xs) (sum_unit a) d.0 (zero_sign a xs) d.1));
      gathered = c.raise.ensures;
      asked = c.answer_ask-answer.ensures.after (sum_sign a xs) (sum_size a xs) (length xs) (sum_unit a) d.0 few d.1 ∙ sym (average_asks a (g.E.Engine.logged c.args.engine.now) xs);
      untouched = tt;
    }
