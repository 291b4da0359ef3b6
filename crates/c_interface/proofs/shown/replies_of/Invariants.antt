use Rattle.std.proofs.Common.{◌≡◌, ◌-◌, ◌++◌, map, take, replicate}
use Rattle.rounding.specs.declared.encoding.Encoding.{Encoding}
use Rattle.c_interface.proofs.shown.replies_of.Given as goal

abbrev pub invariant-loop-i : goal.invariant-loop-i
invariant-loop-i l = l.list ≡ take l.i (map (λ (e : Encoding). e.bits) l.meter.model.replies) ++ replicate (288 - l.i) 0
