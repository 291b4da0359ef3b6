-- The texts of the forms that compute.
use Rattle.std.specs.Prelude.{ℕ, ◌^◌, ◌<◌, List, codes}
use Rattle.forms.specs.declared.Calculation.{Calculation}
use Rattle.forms.specs.declared.Calculation.TheVariants.{Divide, Square, Mean, MeanSquare}
use Rattle.lex.specs.Numbers.{hex}
use Rattle.lex.specs.Parts.{group, pair}

-- a head and an encoding
abbrev pub encoded : List ℕ → ℕ → List ℕ
encoded head n = group head (hex n)

abbrev pub divided : ℕ × ℕ → List ℕ
divided p = group (codes "(div ") (pair (hex p.0, hex p.1))

-- both are numbers of 32 bits
abbrev pub Encodings : ℕ × ℕ → Type 0
Encodings p = (p.0 < 2 ^ 32) × (p.1 < 2 ^ 32)

abbrev pub calculation : Calculation → List ℕ
calculation (Divide dividend divisor) = divided (dividend, divisor)
calculation (Square operand) = encoded (codes "(sqr ") operand
calculation Mean = codes "(mean)"
calculation MeanSquare = codes "(meansq)"

abbrev pub Sized : Calculation → Type 0
Sized (Divide dividend divisor) = Encodings (dividend, divisor)
Sized (Square operand) = operand < 2 ^ 32
Sized Mean = Unit {0}
Sized MeanSquare = Unit {0}

-- the same, as a trial
abbrev pub trial : Calculation → List ℕ
trial c = group (codes "(try ") (calculation c)
