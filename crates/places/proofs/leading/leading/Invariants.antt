use Rattle.std.proofs.Common.{◌≡◌, ◌*◌, ◌<◌, ◌≤◌, length}
use Rattle.std.specs.Iterator.Adapters.{rev_source, enumerate_source, enumerate_count}
use Rattle.std.specs.Slice.Iter.{iter_rest}
use Rattle.places.proofs.Reaching.{Led}
use Rattle.places.proofs.leading.leading.Given as goal

abbrev pub invariant-loop-place : goal.invariant-loop-place
invariant-loop-place l = record {
  led : Led l.bits.digits (iter_rest (enumerate_source (rev_source l.place-iterator))) l.number;
  begun : enumerate_count (rev_source l.place-iterator) ≡ 0;
  few : length (iter_rest (enumerate_source (rev_source l.place-iterator))) ≤ 576;
  below : l.number < 2 * l.limit;
}
