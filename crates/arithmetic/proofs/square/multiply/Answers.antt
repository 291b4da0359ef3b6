use Rattle.std.proofs.Common.{◌∙◌}
use Rattle.arithmetic.proofs.Quotients.{zero_square}
use Rattle.arithmetic.proofs.square.multiply.Goals as goal

pub returns-in-Zero : goal.returns-in-Zero
returns-in-Zero g c =
    let e = zero_square (g.R.Rule.meaning c.args.rule.now) c.args.operand.bits (g.met.R.Rule.lawful c.args.rule.now) c.in-Zero.ensures in
    simp e (c.silent-in-Zero.ensures.0 ∙ c.zero.ensures, c.silent-in-Zero.ensures.1)
