use Rattle.std.proofs.Common.{refl, arith}
use Rattle.arithmetic.proofs.Scaling.{scales}
use Rattle.arithmetic.proofs.operand.scale_up.Goals as goal

pub overflow_sub-lift : goal.overflow_sub-lift
overflow_sub-lift c =
    (scales c.args.x.bits _ _ c.significand-significand.ensures refl c.requires.0 c.requires.1).zeros

pub overflow_add-result : goal.overflow_add-result
overflow_add-result c =
    let s = scales c.args.x.bits _ _ c.significand-significand.ensures c.shift.ensures c.requires.0 c.requires.1 in
    omega (arith, s.near)

pub overflow_sub-result : goal.overflow_sub-result
overflow_sub-result c =
    let s = scales c.args.x.bits _ _ c.significand-significand.ensures c.shift.ensures c.requires.0 c.requires.1 in
    omega (arith, s.few)

pub invariant_of-result : goal.invariant_of-result
invariant_of-result c =
    let s = scales c.args.x.bits _ _ c.significand-significand.ensures c.shift.ensures c.requires.0 c.requires.1 in
    record { normal = rw s.whole (s.at_least, s.less_than); finite = omega (arith, s.near) }

pub returns : goal.returns
returns c =
    let s = scales c.args.x.bits _ _ c.significand-significand.ensures c.shift.ensures c.requires.0 c.requires.1 in
    rw s.whole (record { bits = s.bits; value = s.worth })
