use Rattle.window.specs.Window.{standing}
use Rattle.window.proofs.Topping.{Tops}
use Rattle.window.proofs.window.Window.peak.Given as goal

abbrev pub invariant-loop-i : goal.invariant-loop-i
invariant-loop-i l = Tops (standing l.self) l.i l.place l.encoding
