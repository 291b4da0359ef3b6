use Rattle.std.proofs.Common.{◌<◌, ◌≤◌, sym, ap, ◌∙◌, arith, lit<}
use Rattle.rounding.specs.Format.{binary32, joined}
use Rattle.rounding.proofs.Chosen.{finite_answer, overflow_answer}
use Rattle.rounding.proofs.round.round.Goals as goal

pub returns-then-size-from : goal.returns-then-size-from
returns-then-size-from g c =
    let m = g.R.Rule.meaning c.args.rule.now in
    let s = c.args.negative in
    let under : c.chosen-size.result < 2139095040 = omega arith in
    record {
      encoding =
          λ a b bp near.
          let p = c.of-split.ensures a b bp near in
          let known = finite_answer m s 8388608 a b _ _ _ p.0 p.1 p.2 _ 2139095040 (lit< tt) bp c.chosen-size.ensures under in
          c.with_sign.ensures ∙ ap (joined binary32 s) (sym known.0);
      flags =
          λ a b bp near.
          let p = c.of-split.ensures a b bp near in
          let known = finite_answer m s 8388608 a b _ _ _ p.0 p.1 p.2 _ 2139095040 (lit< tt) bp c.chosen-size.ensures under in
          cc (c.of_rest.ensures, known.1);
    }

pub returns-else-size-from : goal.returns-else-size-from
returns-else-size-from g c =
    let m = g.R.Rule.meaning c.args.rule.now in
    let s = c.args.negative in
    let over : 2139095040 ≤ c.chosen-size.result = omega arith in
    record {
      encoding =
          λ a b bp near.
          let p = c.of-split.ensures a b bp near in
          let known = overflow_answer m s 8388608 a b _ _ _ p.0 p.1 p.2 _ 2139095040 (lit< tt) bp c.chosen-size.ensures over in
          c.with_sign-else-size-from.ensures ∙ ap (joined binary32 s) (c.overflow_size.ensures ∙ sym known.0);
      flags =
          λ a b bp near.
          let p = c.of-split.ensures a b bp near in
          let known = overflow_answer m s 8388608 a b _ _ _ p.0 p.1 p.2 _ 2139095040 (lit< tt) bp c.chosen-size.ensures over in
          c.overflow.ensures ∙ sym known.1;
    }
