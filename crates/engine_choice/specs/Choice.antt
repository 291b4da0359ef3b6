-- An engine that was picked: its name and its meaning.
use Rattle.engines.specs.declared.meaning.Log.{Log}
use Rattle.engine_choice.specs.declared.AnyEngine.{AnyEngine}
use Rattle.engine_choice.specs.declared.AnyEngine.TheVariants as fitted
use Rattle.engine_choice.specs.declared.EngineName.{EngineName}
use Rattle.engine_choice.specs.declared.EngineName.TheVariants as name

-- which engine it is
abbrev pub named : AnyEngine → EngineName
named (fitted.Digits e) = name.Digits
named (fitted.Radix4 e) = name.Radix4
named (fitted.Cubic e) = name.Cubic

-- its meaning is that of the engine inside
abbrev pub log_of : AnyEngine → Log
log_of (fitted.Digits e) = e.log
log_of (fitted.Radix4 e) = e.log
log_of (fitted.Cubic e) = e.log
