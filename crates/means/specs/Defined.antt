-- The defined mean and mean square of standing replies, and what they ask the engine.
use Rattle.std.specs.Prelude.{ℕ, ◌-◌, ◌*◌, ◌/◌, ◌^◌, false, cond, List, length, ◌==◌, unsigned_abs}
use Rattle.rounding.specs.declared.encoding.Encoding.{Encoding}
use Rattle.rounding.specs.Format.{binary32}
use Rattle.rounding.specs.Exact.{Exact}
use Rattle.rounding.specs.Rules.{Meaning}
use Rattle.rounding.specs.Rounding.{Outcome, rounded, doublings}
use Rattle.arithmetic.specs.Defined.{aligned}
use Rattle.engines.specs.declared.meaning.Log.{Log}
use Rattle.engines.specs.Meaning.{counted}
use Rattle.window.specs.declared.average.Average.{Average}
use Rattle.window.specs.declared.average.Average.TheVariants.{Mean, MeanSquare}
use Rattle.window.specs.Replies.{total, total_squares, below_zero}

-- The exact mean: the sum over the number. The sum is in units of 2^-149.
abbrev pub mean_value : List Encoding → Exact
mean_value xs = record { negative = below_zero (total xs); num = unsigned_abs (total xs); den = length xs * 2 ^ 149 }

-- The exact mean square: the sum of squares over the number. That sum is in units of 2^-298.
abbrev pub mean_square_value : List Encoding → Exact
mean_square_value xs = record { negative = false; num = total_squares xs; den = length xs * 2 ^ 298 }

abbrev pub mean : Meaning → List Encoding → Outcome
mean m xs = rounded binary32 m (mean_value xs)

abbrev pub mean_square : Meaning → List Encoding → Outcome
mean_square m xs = rounded binary32 m (mean_square_value xs)

-- The dividend asked for a sum s and a divisor d of 24 bits: the whole part of s * 2^b with the one b, of either sign, that brings s * 2^b / d
-- into [2^24, 2^25). It is doubled up to there, or halved down to there.
unfoldable pub sum_dividend : ℕ → ℕ → ℕ
sum_dividend s d = s * 2 ^ doublings 64 (16777216 * d - 1) s / 2 ^ doublings s s (33554432 * d)

-- The engine's meaning after a mean of n replies with the sum s: asked once where s is not zero, with n brought to 24 bits.
abbrev pub sum_log : Log → ℕ → ℕ → Log
sum_log log s n = cond (s == 0) log (counted log (aligned n) (sum_dividend s (aligned n)))

abbrev pub mean_log : Log → List Encoding → Log
mean_log log xs = sum_log log (unsigned_abs (total xs)) (length xs)

abbrev pub mean_square_log : Log → List Encoding → Log
mean_square_log log xs = sum_log log (total_squares xs) (length xs)

-- The same by the average that is asked for.
abbrev pub average_of : Average → Meaning → List Encoding → Outcome
average_of Mean = mean
average_of MeanSquare = mean_square

abbrev pub average_log : Average → Log → List Encoding → Log
average_log Mean = mean_log
average_log MeanSquare = mean_square_log
