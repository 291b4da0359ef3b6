use Rattle.std.proofs.Common.{◌≡◌, length, take, sym, arith, rules}
use Rattle.std.proofs.lemmas.List.{length-take-le}
use Rattle.places.proofs.Lacking.{turned_none, turned_more, turned_all}
use Rattle.places.proofs.sums.lacking.Goals as goal

pub slice_bounds-digit-items-end : goal.slice_bounds-digit-items-end
slice_bounds-digit-items-end c =
    let long : length c.args.bits.digits ≡ 576 = search rules in
    sym (length-take-le 317 c.args.bits.digits (omega arith))

pub loop-digit-init : goal.loop-digit-init
loop-digit-init c = turned_none (take 317 c.args.bits.digits)

pub loop-digit-preserved : goal.loop-digit-preserved
loop-digit-preserved c = turned_more c.loop-digit.digit-items (take 317 c.args.bits.digits) c.loop-digit.digit-index c.loop-digit.seen (omega arith) c.loop-digit.invariant

pub returns : goal.returns
returns c =
    let long : length c.args.bits.digits ≡ 576 = search rules in
    let few : length (take 317 c.args.bits.digits) ≡ 317 = length-take-le 317 c.args.bits.digits (omega arith) in
    turned_all c.loop-digit.digit-items c.args.bits.digits c.loop-digit.digit-index c.loop-digit.seen (omega arith) (omega arith) c.loop-digit.invariant c.requires
