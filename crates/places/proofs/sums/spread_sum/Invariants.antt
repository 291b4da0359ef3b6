use Rattle.std.proofs.Common.{◌≡◌, drop, ℕ, ◌+◌, ◌*◌, ◌^◌, ◌<◌, IfSome}
use Rattle.std.specs.List.{slice_get}
use Rattle.places.specs.Digits.{bits_value}
use Rattle.places.specs.Spread.{spread, taken}
use Rattle.places.proofs.Binary.{Carrying}
use Rattle.places.proofs.sums.spread_sum.Given as goal

abbrev pub invariant-loop-field : goal.invariant-loop-field
invariant-loop-field g l = record {
  carrying : Carrying 576 l.digits (g.row.STEP * l.field) l.carry (spread g.row.STEP (taken g.W.Word.worth l.words) (l.field + 1));
  above : bits_value (drop (g.row.STEP * l.field) l.digits) ≡ 0;
  each : (k : ℕ) → k < l.field + 1 → (taken g.W.Word.worth l.words k < 2 ^ 64) × IfSome (slice_get l.words k) g.W.Word.fair;
}
