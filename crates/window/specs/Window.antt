-- The meaning of a window, and what its calls make of it.
use Rattle.std.specs.Prelude.{◌-◌, cond, List, [], ◌∷◌, ◌++◌, length, Option, nat_lt}
use Rattle.std.specs.List.{slice_get}
use Rattle.rounding.specs.declared.encoding.Encoding.{Encoding}
use Rattle.window.specs.declared.window.Window.{Window}
use Rattle.window.specs.Ring.{standing_in}

-- A window means the list of its standing replies, oldest first.
abbrev pub standing : Window → List Encoding
standing w = standing_in w.ring

-- the newest reply, where one stands
abbrev pub newest_of : List Encoding → Option Encoding
newest_of xs = slice_get xs (length xs - 1)

-- a reply put last, where there is room for it
abbrev pub taken_in : List Encoding → Encoding → List Encoding
taken_in xs e = cond (nat_lt (length xs) 288) (xs ++ e ∷ []) xs
