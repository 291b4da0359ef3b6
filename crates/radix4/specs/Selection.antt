-- The remainder's bound, and the constants that keep it.
use Rattle.std.specs.Prelude.{ℕ, ◌*◌, ◌≤◌, ℤ, nat_abs}

-- the remainder w is at most two thirds of the divisor in size
abbrev pub Bounded : ℕ → ℤ → Type 0
Bounded wide w = 3 * nat_abs w ≤ 2 * wide

-- at `one` the digits 0 and 1 both keep the next remainder bounded, and at `two` the digits 1 and 2 both do
abbrev pub Selects : ℕ → ℕ → ℕ → Type 0
Selects wide one two = (wide ≤ 3 * one) × (3 * one ≤ 2 * wide) × (4 * wide ≤ 3 * two) × (3 * two ≤ 5 * wide)
