-- A cubic polynomial in whole numbers: coefficients times 2^24, its argument times 2^10.
use Rattle.std.specs.Prelude.{◌≡◌, ℕ, ◌+◌, ◌-◌, ◌*◌, ◌/◌, ◌^◌, ◌<◌, ◌≤◌}

-- its terms of degree three and two, at a scale of 2^54
abbrev pub high : ℕ → ℕ → ℕ → ℕ
high cubed squared x = (squared * 2 ^ 10 - cubed * x) * x * x

-- no part of it is below 0, and none passes 64 bits
pub record Valued (cubed squared once constant x : ℕ) : Type 0 where
  pub difference : cubed * x ≤ squared * 2 ^ 10
  pub coefficient : squared * 2 ^ 10 < 2 ^ 64
  pub sum : once * x * 2 ^ 20 ≤ high cubed squared x + constant * 2 ^ 30
  pub fits : high cubed squared x + constant * 2 ^ 30 < 2 ^ 62

-- m is its value, cut to a whole number: the signs alternate, and the cubic term counts against the square
pub record Value (cubed squared once constant x m : ℕ) : Type 0 where
  pub is : m ≡ (high cubed squared x + constant * 2 ^ 30 - once * x * 2 ^ 20) / 2 ^ 30
