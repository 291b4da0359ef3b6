-- Rules: choosers between the two neighbours of an exact value.
use Rattle.std.specs.Prelude.{◌≡◌, ℕ, ◌≤◌, Bool, true, false, not}
use Rattle.rounding.specs.declared.rest.Rest.{Rest}
use Rattle.rounding.specs.declared.rest.Rest.TheVariants.{Nothing, UnderHalf, Half, OverHalf}
use Rattle.rounding.specs.declared.rules.AnyRule.{AnyRule}
use Rattle.rounding.specs.declared.rules.AnyRule.TheVariants.{Even, Away, Zero, Up, Down}

-- the four kinds of rest, in rising order
abbrev pub rank : Rest → ℕ
rank Nothing = 0
rank UnderHalf = 1
rank Half = 2
rank OverHalf = 3

-- A rule's meaning is its two answers: whether the significand grows by one, from the sign, whether it is odd, and the kind of rest;
-- and whether an overflow goes to infinity or stays at the greatest finite number, from the sign alone.
pub record Meaning : Type 0 where
  pub grow : Bool → Bool → Rest → Bool
  pub infinite : Bool → Bool

-- The two laws of a rule: it moves no exact value, and a larger rest never turns its yes into a no.
pub record Lawful (m : Meaning) : Type 0 where
  pub exact : (s o : Bool) → m.grow s o Nothing ≡ false
  pub rising : (s o : Bool) (k l : Rest) → rank k ≤ rank l → m.grow s o k ≡ true → m.grow s o l ≡ true

-- to nearest, a tie to the even significand
abbrev pub even_grows : Bool → Bool → Rest → Bool
even_grows s o Nothing = false
even_grows s o UnderHalf = false
even_grows s o Half = o
even_grows s o OverHalf = true

-- to nearest, a tie away from zero
abbrev pub away_grows : Bool → Bool → Rest → Bool
away_grows s o Nothing = false
away_grows s o UnderHalf = false
away_grows s o Half = true
away_grows s o OverHalf = true

-- toward the side of the given sign: whatever is left grows there
abbrev pub directed_grows : Bool → Rest → Bool
directed_grows toward Nothing = false
directed_grows toward UnderHalf = toward
directed_grows toward Half = toward
directed_grows toward OverHalf = toward

abbrev pub even_rule : Meaning
even_rule = record { grow = even_grows; infinite = λ s. true }

abbrev pub away_rule : Meaning
away_rule = record { grow = away_grows; infinite = λ s. true }

abbrev pub zero_rule : Meaning
zero_rule = record { grow = λ s o k. false; infinite = λ s. false }

abbrev pub up_rule : Meaning
up_rule = record { grow = λ s o k. directed_grows (not s) k; infinite = λ s. not s }

abbrev pub down_rule : Meaning
down_rule = record { grow = λ s o k. directed_grows s k; infinite = λ s. s }

-- the meaning of a rule picked by name
abbrev pub rule_of : AnyRule → Meaning
rule_of Even = even_rule
rule_of Away = away_rule
rule_of Zero = zero_rule
rule_of Up = up_rule
rule_of Down = down_rule
