-- The text of the form that sets the meter up.
use Rattle.std.specs.Prelude.{ℕ, ◌<◌, List, codes, decimal}
use Rattle.forms.specs.declared.Setup.{Setup}
use Rattle.engine_choice.specs.declared.EngineName.{EngineName}
use Rattle.engine_choice.specs.declared.EngineName.TheVariants.{Digits, Radix4, Cubic}
use Rattle.rounding.specs.declared.rules.AnyRule.{AnyRule}
use Rattle.rounding.specs.declared.rules.AnyRule.TheVariants.{Even, Away, Zero, Up, Down}
use Rattle.lex.specs.Parts.{group, pair}

abbrev pub engine : EngineName → List ℕ
engine Digits = codes "digits"
engine Radix4 = codes "radix4"
engine Cubic = codes "cubic"

abbrev pub rule : AnyRule → List ℕ
rule Even = codes "even"
rule Away = codes "away"
rule Zero = codes "zero"
rule Up = codes "up"
rule Down = codes "down"

-- an engine and a rule
abbrev pub fitting : EngineName × AnyRule → List ℕ
fitting p = pair (engine p.0, rule p.1)

abbrev pub setup : Setup → List ℕ
setup s = group (codes "(meter ") (pair (decimal s.address, fitting (s.engine, s.rule)))

-- its address has one to three digits
abbrev pub Addressed : Setup → Type 0
Addressed s = s.address < 1000
