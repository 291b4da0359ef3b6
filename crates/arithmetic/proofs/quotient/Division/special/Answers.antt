use Rattle.std.proofs.Common.{ap, ◌∙◌}
use Rattle.rounding.specs.Format.{binary32, joined}
use Rattle.arithmetic.proofs.Quotients.{zero_quotient, no_ask}
use Rattle.arithmetic.proofs.quotient.Division.special.Goals as goal

pub returns-in-Zero-Number : goal.returns-in-Zero-Number
returns-in-Zero-Number c =
    let x = c.args.self.dividend.bits in
    let y = c.args.self.divisor.bits in
    let s = c.in-Zero-Number.ensures in
    let t = c.in-Zero-Number.ensures' in
    let sign = ap (λ z. joined binary32 z 0) c.is_negative-negative.ensures in (
      no_ask x y s t,
      λ m law.
          let e = zero_quotient m x y law s t in
          simp e (c.silent.ensures.0 ∙ c.zero.ensures ∙ sign, c.silent.ensures.1),
    )
