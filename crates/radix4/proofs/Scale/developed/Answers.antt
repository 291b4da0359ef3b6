use native.Mathlib.Omega.{arith}
use Rattle.radix4.proofs.Recurrence.{short, fourfold, room, complete}
use Rattle.radix4.proofs.Scale.developed.Goals as goal

pub step-found-requires : goal.step-found-requires
step-found-requires c = record {
  bounded = c.loop-done.invariant.1;
  short =
      room c.loop-done._done c.loop-done.found.quotient c.args.self.wide c.args.dividend
      c.loop-done.found.rest (omega arith) c.loop-done.invariant.0 c.loop-done.invariant.1
      c.requires;
  owing = c.loop-done.invariant.2;
}

pub loop-done-preserved : goal.loop-done-preserved
loop-done-preserved c = (
  fourfold c.loop-done._done c.loop-done.found.quotient c.args.self.wide c.args.dividend
      c.step-found.result.quotient c.loop-done.found.rest c.step-found.result.rest c.loop-done.invariant.0
      c.step-found.ensures.sum,
  c.step-found.ensures.bounded,
  c.step-found.ensures.owing,
)

pub returns-clause-short : goal.returns-clause-short
returns-clause-short c =
    let whole =
    complete c.loop-done._done c.loop-done.found.quotient c.args.self.wide c.args.dividend
    c.loop-done.found.rest (omega arith) (omega arith) c.loop-done.invariant.0 in
    omega (
      arith,
      short 268435456 c.loop-done.found.quotient c.args.self.wide c.args.dividend
          c.loop-done.found.rest whole c.loop-done.invariant.1 c.requires,
    )
