-- The text of a poll.
use Rattle.std.specs.Prelude.{ℕ, zero, suc, ◌^◌, ◌<◌, List, codes}
use Rattle.forms.specs.Calculations.{encoded}
use Rattle.forms.specs.declared.Ending.{Ending}
use Rattle.forms.specs.declared.Ending.TheVariants.{Reply, Lapse}
use Rattle.forms.specs.declared.Poll.{Poll}
use Rattle.lex.specs.Parts.{group}

abbrev pub ending : Ending → List ℕ
ending (Reply encoding) = encoded (codes "(reply ") encoding
ending Lapse = codes "(lapse)"

abbrev pub Ended : Ending → Type 0
Ended (Reply encoding) = encoding < 2 ^ 32
Ended Lapse = Unit {0}

-- p inside n repeats
unfoldable pub repeated : ℕ → List ℕ → List ℕ
repeated zero p = p
repeated (suc n) p = group (codes "(again ") (repeated n p)

abbrev pub poll : Poll → List ℕ
poll p = group (codes "(poll ") (repeated p.again (ending p.ending))

abbrev pub Polled : Poll → Type 0
Polled p = Ended p.ending
