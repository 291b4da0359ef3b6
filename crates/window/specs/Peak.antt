-- The greatest of the standing replies.
use Rattle.std.specs.Prelude.{◌≡◌, ℕ, ◌+◌, ◌-◌, ◌<◌, List, length, ◌≤ℤ◌, ◌<ℤ◌, Some, slice_index_or}
use Rattle.std.specs.List.{slice_get}
use Rattle.rounding.specs.declared.encoding.Encoding.{Encoding}
use Rattle.window.specs.declared.peak.Peak.{Peak}
use Rattle.window.specs.Replies.{worth_of}
use Rattle.window.specs.Ring.{blank}

-- p is a standing reply with its place, counted from 1; none is greater by value, and the older ones are less.
pub record Peaks (xs : List Encoding) (p : Peak) : Type 0 where
  pub counted : 0 < p.place
  pub stands : slice_get xs (p.place - 1) ≡ Some p.encoding
  pub greatest : (k : ℕ) → k < length xs → worth_of (slice_index_or xs k blank) ≤ℤ worth_of p.encoding
  pub oldest : (k : ℕ) → k + 1 < p.place → worth_of (slice_index_or xs k blank) <ℤ worth_of p.encoding
