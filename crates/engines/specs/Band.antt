-- Which pairs an engine answers, and how near its estimate is.
use Rattle.std.specs.Prelude.{◌≡◌, ℕ, ◌+◌, ◌*◌, ◌/◌, ◌<◌, ◌≤◌, Bool, cond, ◌&&◌, MatchBool, nat_le, nat_lt}

-- the divisor d has 24 bits, and the quotient n / d has 25 before the point
abbrev pub in_range : ℕ → ℕ → Bool
in_range d n = (nat_le 8388608 d && nat_lt d 16777216) && (nat_le (16777216 * d) n && nat_lt n (33554432 * d))

-- v / 64 is at least n / d, and less than 1 above it
abbrev pub Band : ℕ → ℕ → ℕ → Type 0
Band d n v = (64 * n ≤ v * d) × (v * d < 64 * n + 64 * d)

-- the estimates v that an engine may give for the pair
abbrev pub Estimate : ℕ → ℕ → ℕ → Type 0
Estimate d n v = MatchBool (in_range d n) (Band d n v) (v ≡ 0)

-- the whole quotient that an estimate leads to
abbrev pub quotient : ℕ → ℕ → ℕ
quotient d n = cond (in_range d n) (n / d) 0
