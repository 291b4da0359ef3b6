use Prim.Native.Nat.{◌*◌, ◌^◌, ◌<◌}
use mathlib.Core.Path.{◌≡◌}
use lib.IntN.{pos, ◌+ℤ◌}
use lib.Signed.{◌<ℤ◌}
use Rattle.radix4.specs.Selection.{Bounded}
use Rattle.radix4.proofs.Scale.developed.Given as goal

-- after i digits the quotient and the rest make up 4^i times the dividend
abbrev pub invariant-loop-done : goal.invariant-loop-done
invariant-loop-done l =
    (pos (l.found.quotient * l.self.wide) +ℤ l.found.rest ≡ pos (4 ^ l._done * l.dividend)) ×
    Bounded l.self.wide l.found.rest ×
    (l.found.rest <ℤ pos 0 → 0 < l.found.quotient)
