-- The greatest reply so far, as a walk over the replies keeps it.
use Rattle.std.proofs.Common.{◌≡◌, ℕ, ◌+◌, ◌-◌, ◌<◌, ◌≤◌, List, get_or, ◌≤ℤ◌, ◌<ℤ◌}
use Rattle.rounding.specs.declared.encoding.Encoding.{Encoding}
use Rattle.window.specs.Replies.{worth_of}
use Rattle.window.specs.Ring.{blank}

pub record Tops (xs : List Encoding) (i place : ℕ) (e : Encoding) : Type 0 where
  pub counted : 0 < place
  pub within : place ≤ i
  pub stands : e ≡ get_or xs (place - 1) blank
  pub greatest : (k : ℕ) → k < i → worth_of (get_or xs k blank) ≤ℤ worth_of e
  pub oldest : (k : ℕ) → k + 1 < place → worth_of (get_or xs k blank) <ℤ worth_of e
