-- The replies that stand in a ring, oldest first.
use Rattle.std.specs.Prelude.{ℕ, zero, suc, ◌+◌, ◌%◌, List, [], ◌∷◌, slice_index_or}
use Rattle.rounding.specs.declared.encoding.Encoding.{Encoding}
use Rattle.window.specs.declared.ring.Ring.{Ring}

-- what is read where nothing stands
abbrev pub blank : Encoding
blank = record { bits = 0 }

-- n cells from the given one on, round and round
unfoldable pub ringed : List Encoding → ℕ → ℕ → List Encoding
ringed cells from zero = []
ringed cells from (suc n) = slice_index_or cells (from % 288) blank ∷ ringed cells (from + 1) n

abbrev pub standing_in : Ring → List Encoding
standing_in r = ringed r.cells r.start r.count
