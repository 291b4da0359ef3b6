-- An engine's meaning, and how an estimate changes it.
use Rattle.std.specs.Prelude.{ℕ, ◌+◌, min, cond}
use Rattle.engines.specs.Band.{in_range}
use Rattle.engines.specs.declared.meaning.Log.{Log}

-- a new engine's
abbrev pub none : Log
none = record { estimates = 0; divisor = 0; dividend = 0 }

-- after one more estimate in range: the count, which stops at 4294967295, and the pair
abbrev pub counted : Log → ℕ → ℕ → Log
counted log d n = record { estimates = min (log.estimates + 1) 4294967295; divisor = d; dividend = n }

-- after an estimate for any pair
abbrev pub noted : Log → ℕ → ℕ → Log
noted log d n = cond (in_range d n) (counted log d n) log
