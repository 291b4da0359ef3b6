-- How near a reciprocal is.
use Rattle.std.specs.Prelude.{ℕ, zero, suc, ◌+◌, ◌-◌, ◌*◌, ◌^◌, ◌≤◌}

-- how far apart a and b are
abbrev pub gap : ℕ → ℕ → ℕ
gap a b = (a - b) + (b - a)

-- m times d is 2^47, up to one part in 2^bits
abbrev pub Start : ℕ → ℕ → ℕ → Type 0
Start bits d m = 2 ^ bits * gap (m * d) (2 ^ 47) ≤ 2 ^ 47

-- how far a reciprocal times its divisor may be from 2^55 with so many steps to come
abbrev pub allowed : ℕ → ℕ
allowed zero = 10 * 2 ^ 24
allowed (suc zero) = 2 ^ 41 + 2 ^ 25
allowed (suc (suc zero)) = 2 ^ 48
allowed (suc (suc (suc zero))) = 2 ^ 51
allowed (suc (suc (suc (suc k)))) = 2 ^ 52
