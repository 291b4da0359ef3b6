-- What an average is to ask.
use Rattle.std.specs.Prelude.{◌≡◌, ℕ, ◌*◌, ◌^◌, ◌<◌, Bool, Option, Some, None}
use Rattle.places.specs.Asking.{Asks, Scales}
use Rattle.window.specs.declared.ask.Ask.{Ask}

-- What the exact value s / (n * 2^u) is to ask, with a sign: nothing where it is 0, and else the pair that is defined for s / n, with the
-- scale of its quotient, by which it stands for that value in units of 2^-149.
abbrev pub Due : Bool → ℕ → ℕ → ℕ → Option Ask → Type 0
Due sign s n u None = s ≡ 0
Due sign s n u (Some ask) = (0 < s) × (ask.negative ≡ sign) × Asks s n ask.question.divisor ask.question.dividend × Scales 256 (s * 2 ^ 149) (n * 2 ^ u) ask.question.divisor ask.question.dividend ask.scale ask.more
