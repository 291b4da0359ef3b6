-- The attempts of a poll, by number.
use Rattle.std.specs.Prelude.{◌≡◌, ℕ, Bool, true, false, ◌&&◌, Result, MatchResult, nat_le}
use Rattle.meter.specs.declared.call.Attempt.{Attempt}
use Rattle.meter.specs.declared.call.Attempt.TheVariants.{First, Second, Third}
use Rattle.meter.specs.declared.call.UnknownAttempt.{UnknownAttempt}

abbrev pub attempt_number : Attempt → ℕ
attempt_number First = 1
attempt_number Second = 2
attempt_number Third = 3

-- 1 to 3 are accepted, all others refused
abbrev pub is_attempt : ℕ → Bool
is_attempt n = nat_le 1 n && nat_le n 3

-- the attempt of a number, or the number that no attempt has
abbrev pub AttemptOf : ℕ → Result Attempt UnknownAttempt → Type 0
AttemptOf n r = MatchResult r (λ a. (is_attempt n ≡ true) × (attempt_number a ≡ n)) (λ e. (is_attempt n ≡ false) × (e.0 ≡ n))
