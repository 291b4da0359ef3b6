use Rattle.std.proofs.Common.{ℕ, ◌+◌, ◌^◌, ◌≤◌, mul-le-mul_left, arith}
use native.Mathlib.Nat.{pow-le-pow_right}
use Rattle.places.proofs.Binary.{carrying_first, carrying_next}
use Rattle.places.proofs.carry.carried.Goals as goal

pub loop-digit-init : goal.loop-digit-init
loop-digit-init g c = carrying_first g.row.N (c.args.carry + c.args.word)

pub loop-digit-preserved : goal.loop-digit-preserved
loop-digit-preserved g c = carrying_next g.row.N c.loop-digit.digit-items c.loop-digit.digit-index c.loop-digit.rest (c.args.carry + c.args.word) (omega arith) c.loop-digit.invariant

pub overflow_cast-result : goal.overflow_cast-result
overflow_cast-result g c =
    let i : ℕ = c.loop-digit.digit-index in
    let some : 1 ≤ i = omega arith in
    let p : 2 ^ 1 ≤ 2 ^ i = pow-le-pow_right (omega arith) some in
    omega (arith, c.loop-digit.invariant.1, mul-le-mul_left c.loop-digit.rest p)
