-- A fact of every number in a range of 2^k, as one computed test.
use Rattle.std.proofs.Common.{◌≡◌, ℕ, zero, suc, ◌+◌, ◌^◌, ◌<◌, ◌≤◌, Bool, true, ◌&&◌, inl, inr, pow-suc, arith}
use Rattle.std.proofs.lemmas.Bool.{cases_lt, and_parts}

-- f says true of each of the 2^k numbers from `lo` on
abbrev pub all : (ℕ → Bool) → ℕ → ℕ → Bool
all f zero lo = f lo
all f (suc k) lo = all f k lo && all f k (lo + 2 ^ k)

pub each : (f : ℕ → Bool) (k lo x : ℕ) → all f k lo ≡ true → lo ≤ x → x < lo + 2 ^ k → f x ≡ true
each f zero lo x h a b = let e : lo ≡ x = omega arith in rw e at h
each f (suc k) lo x h a b =
    let both = and_parts (all f k lo) (all f k (lo + 2 ^ k)) h in
    elim (cases_lt x (lo + 2 ^ k)) [
      | inl c ↦ each f k lo x both.0 a c
      | inr c ↦ each f k (lo + 2 ^ k) x both.1 c (omega (arith, pow-suc 2 k))
    ]
