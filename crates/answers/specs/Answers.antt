-- The texts of the console's answers.
use Rattle.std.specs.Prelude.{ℕ, List, codes, decimal}
use Rattle.answers.specs.declared.Answer.{Answer}
use Rattle.answers.specs.declared.Answer.TheVariants.{Ready, Number, Taken, Lapsed, Left, Peak, Flags, Refused}
use Rattle.lex.specs.Numbers.{hex}
use Rattle.lex.specs.Parts.{group, pair}

-- a name and a number
abbrev pub counted : List ℕ → ℕ → List ℕ
counted head n = group head (decimal n)

-- an encoding and flags
abbrev pub numbered : ℕ → ℕ → List ℕ
numbered encoding flags = group (codes "(num ") (pair (hex encoding, decimal flags))

-- a place and an encoding
abbrev pub peaked : ℕ → ℕ → List ℕ
peaked place encoding = group (codes "(peak ") (pair (decimal place, hex encoding))

abbrev pub text : Answer → List ℕ
text (Ready address) = counted (codes "(ok ") address
text (Number encoding flags) = numbered encoding flags
text (Taken standing) = counted (codes "(taken ") standing
text (Lapsed standing) = counted (codes "(lapsed ") standing
text (Left standing) = counted (codes "(left ") standing
text (Peak place encoding) = peaked place encoding
text (Flags flags) = counted (codes "(flags ") flags
text (Refused number) = counted (codes "(no ") number
