use Rattle.std.proofs.Common.{Bool, List, length, ap, ◌∙◌, arith}
use Rattle.std.specs.Iterator.Adapters.{rev_source, enumerate_source}
use Rattle.std.specs.Slice.Iter.{iter_rest}
use Rattle.std.proofs.lemmas.List.{length_push}
use Rattle.places.proofs.Reaching.{led_more, byte_bit, byte_few}
use Rattle.places.proofs.leading.leading.Goals as goal

pub loop-place-preserved : goal.loop-place-preserved
loop-place-preserved c =
    let h = c.in-Some.ensures.steps in
    let rest : List Bool = iter_rest (enumerate_source (rev_source c.next.new.self)) in
    record {
      led = led_more c.args.bits.now.digits _ rest c.loop-place.number c.from.result c.in-Some.digit.now c.loop-place.invariant.led h.1.0 (c.from.ensures ∙ byte_bit c.in-Some.digit.now);
      begun = h.0 ∙ c.loop-place.invariant.begun;
      few = omega (arith, c.loop-place.invariant.few, ap length h.1.0, length_push rest c.in-Some.digit.now);
      below = omega (arith, c.from.ensures, byte_few c.in-Some.digit.now);
    }
