use Rattle.std.proofs.Common.{ℕ, ◌+◌, ◌*◌, ◌^◌, false, sym, refl, ap, ◌∙◌, lit<}
use Rattle.std.proofs.lemmas.Option.{MatchOption-at_some}
use Rattle.rounding.specs.Format.{binary32, size, value}
use Rattle.rounding.specs.Truncation.{Near}
use Rattle.rounding.specs.Rounding.{Outcome}
use Rattle.rounding.proofs.Truncations.{near_like}
use Rattle.arithmetic.proofs.Nearness.{square_near}
use Rattle.arithmetic.proofs.Quotients.{square_rounds, finite_tests}
use Rattle.arithmetic.proofs.square.rounded_square.Goals as goal

pub returns : goal.returns
returns g c =
    let x = c.args.operand.bits in
    let m = g.R.Rule.meaning c.args.rule.now in
    let v : ℕ = value 8388608 (size binary32 x) in
    let n = c.scale_up-number.result in
    let t = c.unwrap-value.result in
    let told = MatchOption-at_some _ _ t c.unwrap-value.ensures c.new.ensures in
    let e = square_rounds m x _ (finite_tests x c.requires.0 c.requires.1) in
    let near : Near t.quotient t.scale t.cut (v * v * 2 ^ 149) (2 ^ 298) =
    near_like t.quotient t.scale t.cut (n.bits * n.bits) (2 * n.power + 61) false (v * v * 2 ^ 149) (2 ^ 298) told.0 told.1 told.2
    (square_near v n.bits n.power (2 * n.power + 61) c.scale_up-number.ensures.value refl) in (
      c.round.ensures.encoding (v * v * 2 ^ 149) (2 ^ 298) (lit< tt) near ∙ sym (ap (λ (z : Outcome). z.bits) e),
      c.round.ensures.flags (v * v * 2 ^ 149) (2 ^ 298) (lit< tt) near ∙ sym (ap (λ (z : Outcome). z.flags) e),
    )
