-- What a window refuses, by number.
use Rattle.std.specs.Prelude.{ℕ}
use Rattle.window.specs.declared.fault.WindowFault.{WindowFault}
use Rattle.window.specs.declared.fault.WindowFault.TheVariants.{Full, Empty}

abbrev pub number : WindowFault → ℕ
number Full = 7
number Empty = 8
