use Prim.Native.Nat.{ℕ, ◌+◌, ◌-◌, ◌*◌, ◌<◌}
use mathlib.Core.Path.{◌≡◌, ap}
use native.Mathlib.Omega.{arith}
use lib.IntN.{pos}
use lib.Signed.{◌<ℤ◌}
use borrow.Author.Differences.{ints}
use Rattle.radix4.proofs.Partial.step.Goals as goal

-- a digit k below 0 leaves the other digits k short
less : (k q w : ℕ) → k < 4 → 0 < q → (4 * q - k) * w + k * w ≡ 4 * (q * w)
less k q w h p = let e : 4 * q - k + k ≡ 4 * q = omega arith in omega (arith, ap (λ (z : ℕ). z * w) e)

pub returns-then-rest-two-2 : goal.returns-then-rest-two-2
returns-then-rest-two-2 c =
    let n : c.args.self.rest <ℤ pos 0 = omega (arith, ints) in
    let p = c.requires.owing n in
    record {
      sum = omega (arith, ints, less 2 c.args.self.quotient c.args.scale.wide (omega arith) p);
      bounded = omega (arith, ints);
      owing = λ h. omega (arith, p);
    }

pub returns-then-rest-one-2 : goal.returns-then-rest-one-2
returns-then-rest-one-2 c =
    let n : c.args.self.rest <ℤ pos 0 = omega (arith, ints) in
    let p = c.requires.owing n in
    record {
      sum = omega (arith, ints, less 1 c.args.self.quotient c.args.scale.wide (omega arith) p);
      bounded = omega (arith, ints);
      owing = λ h. omega (arith, p);
    }
