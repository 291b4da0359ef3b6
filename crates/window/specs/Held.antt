-- What always holds of a window's ring and words.
use Rattle.std.specs.Prelude.{ℕ, slice_index_or}
use Rattle.window.specs.declared.ring.Ring.{Ring}
use Rattle.window.specs.declared.words.Words.{Words}
use Rattle.window.specs.Replies.{Finite}
use Rattle.window.specs.Ring.{blank, standing_in}
use Rattle.window.specs.Words.{Tells}

-- Each standing reply is finite, and the words are their sums. (Past the last one `blank` is read, which is finite too. That at most 288 stand
-- is in the ring's own type.)
abbrev pub Holds : Ring → Words → Type 0
Holds r w = ((k : ℕ) → Finite (slice_index_or (standing_in r) k blank)) × Tells w (standing_in r)
