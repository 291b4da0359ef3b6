use Rattle.std.proofs.Common.{◌≡◌, ◌∙◌, arith, rules}
use Rattle.c_interface.specs.declared.data.MeterData.{MeterData}
use Rattle.c_interface.specs.Held.{shown}
use Rattle.c_interface.proofs.Returning.{each_finite, again_held}
use Rattle.c_interface.proofs.shown.shown.Goals as goal

pub returns : goal.returns
returns c =
    let d = c.args.numbers.now in
    let m = c.args.meter.now in
    let a = c.number.ensures.bound in
    let at = c.number.ensures.value ∙ c.address.ensures in
    let r : MeterData = record {
      replies = c.replies_of-replies.result;
      standing = c.standing.result;
      address = c.number.result;
      engine = d.engine;
      rule = d.rule;
      pending = c.pending_of.result;
    } in
    let is : r ≡ shown d m.model = search rules in
    record { is = is; again = again_held d r m.model c.requires is (omega (arith, at, a.0)) (omega (arith, at, a.1)) (omega (arith, c.standing.ensures.is, c.standing.ensures.few)) (each_finite m.model.replies c.standing.ensures.finite) }
