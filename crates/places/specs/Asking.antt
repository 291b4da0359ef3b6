-- What the quotient of a sum by a count asks an engine for.
use Rattle.std.specs.Prelude.{◌≡◌, ℕ, ◌+◌, ◌*◌, ◌/◌, ◌^◌, ◌<◌, ◌≤◌, Bool, nat_lt}

-- The pair that s / n asks for. The divisor is n, doubled into [2^23, 2^24). The dividend is the whole part of s * 2^b with the one
-- whole b, of either sign, that brings s * 2^b / divisor into [2^24, 2^25); b is written raise - lower.
pub record Asks (s n divisor dividend : ℕ) : Type 0 where
  pub doublings : ℕ
  pub doubled : divisor ≡ n * 2 ^ doublings
  pub normal : (2 ^ 23 ≤ divisor) × (divisor < 2 ^ 24)
  pub raise : ℕ
  pub lower : ℕ
  pub whole : dividend ≡ s * 2 ^ raise / 2 ^ lower
  pub band : (2 ^ 24 * divisor * 2 ^ lower ≤ s * 2 ^ raise) × (s * 2 ^ raise < 2 ^ 25 * divisor * 2 ^ lower)

-- a / b is dividend / divisor * 2^(scale - bias), and somewhat more exactly where `more`
pub record Scales (bias a b divisor dividend scale : ℕ) (more : Bool) : Type 0 where
  pub rest : ℕ
  pub parts : dividend * (b * 2 ^ scale) + rest ≡ a * 2 ^ bias * divisor
  pub below : rest < b * 2 ^ scale
  pub told : more ≡ nat_lt 0 rest

-- There is one such pair at most.
abbrev pub OnePair : Type 0
OnePair = (s n d m d' m' : ℕ) → Asks s n d m → Asks s n d' m' → (d ≡ d') × (m ≡ m')
