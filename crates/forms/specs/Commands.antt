-- The texts of the forms of a single word.
use Rattle.std.specs.Prelude.{ℕ, List, codes}
use Rattle.forms.specs.declared.Command.{Command}
use Rattle.forms.specs.declared.Command.TheVariants.{Peak, Retire, Retract, Flags, Clear}

abbrev pub command : Command → List ℕ
command Peak = codes "(peak)"
command Retire = codes "(retire)"
command Retract = codes "(retract)"
command Flags = codes "(flags)"
command Clear = codes "(clear)"
