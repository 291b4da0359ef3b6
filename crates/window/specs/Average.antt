-- What an average adds up: a sum with its sign, and the unit of it.
use Rattle.std.specs.Prelude.{ℕ, Bool, false, List, unsigned_abs}
use Rattle.rounding.specs.declared.encoding.Encoding.{Encoding}
use Rattle.window.specs.declared.average.Average.{Average}
use Rattle.window.specs.declared.average.Average.TheVariants.{Mean, MeanSquare}
use Rattle.window.specs.Replies.{total, total_squares, below_zero}

abbrev pub sum_sign : Average → List Encoding → Bool
sum_sign Mean xs = below_zero (total xs)
sum_sign MeanSquare xs = false

abbrev pub sum_size : Average → List Encoding → ℕ
sum_size Mean xs = unsigned_abs (total xs)
sum_size MeanSquare xs = total_squares xs

-- the sum is in units of 2^-149, that of squares in units of 2^-298
abbrev pub sum_unit : Average → ℕ
sum_unit Mean = 149
sum_unit MeanSquare = 298
