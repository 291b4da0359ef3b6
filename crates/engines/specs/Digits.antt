-- What `digits` promises beyond the band.
use Rattle.std.specs.Prelude.{ℕ, ◌+◌, ◌*◌, ◌<◌, ◌≤◌}

-- v is 64 n / d, rounded up
abbrev pub Ceiling : ℕ → ℕ → ℕ → Type 0
Ceiling d n v = (64 * n ≤ v * d) × (v * d < 64 * n + d)
