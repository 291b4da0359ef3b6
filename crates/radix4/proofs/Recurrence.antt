-- The signed-digit recurrence, over plain numbers.
use Prim.Native.Nat.{ℕ, ◌+◌, ◌*◌, ◌^◌, ◌<◌, ◌≤◌}
use mathlib.Core.Path.{◌≡◌, ap}
use native.Mathlib.Omega.{arith}
use native.Mathlib.Nat.{le_of_mul-le-mul_right, mul-le-mul_left, pow-le-pow_right}
use lib.Dec.{lit≤}
use lib.IntN.{ℤ, pos, ◌+ℤ◌, ◌*ℤ◌}
use lib.Pow.{pow-add}
use borrow.Author.Differences.{ints}
use Rattle.radix4.specs.Selection.{Bounded}

-- the digits found so far stay near half of p, which is 4^i
pub short : (p q w n : ℕ) (r : ℤ) → pos (q * w) +ℤ r ≡ pos (p * n) → Bounded w r → 2 * n < w → 6 * q ≤ 3 * p + 4
short p q w n r e b h =
    let m : 2 * n ≤ w = omega arith in
    let k = mul-le-mul_left p m in
    let t : 6 * q * w ≤ (3 * p + 4) * w = omega (arith, ints) in
    le_of_mul-le-mul_right t (omega arith)

-- one digit more is four times as much
pub fourfold : (i q w n q' : ℕ) (r r' : ℤ) → pos (q * w) +ℤ r ≡ pos (4 ^ i * n) → pos (q' * w) +ℤ r' ≡ pos 4 *ℤ (pos (q * w) +ℤ r) → pos (q' * w) +ℤ r' ≡ pos (4 ^ (i + 1) * n)
fourfold i q w n q' r r' e f = omega (arith, ints, ap (λ (z : ℕ). z * n) (pow-add 4 i 1))

-- with a digit to go, the digits found so far leave room for it
pub room : (i q w n : ℕ) (r : ℤ) → i < 14 → pos (q * w) +ℤ r ≡ pos (4 ^ i * n) → Bounded w r → 2 * n < w → q < 2 ^ 28
room i q w n r h e b k =
    let j : i ≤ 13 = omega arith in
    let p : 4 ^ i ≤ 4 ^ 13 = pow-le-pow_right (lit≤ tt) j in
    omega (arith, short (4 ^ i) q w n r e b k)

-- after 14 digits
pub complete : (i q w n : ℕ) (r : ℤ) → 14 ≤ i → i ≤ 14 → pos (q * w) +ℤ r ≡ pos (4 ^ i * n) → pos (q * w) +ℤ r ≡ pos (4 ^ 14 * n)
complete i q w n r lo hi e = let at : i ≡ 14 = omega arith in rw at at e

-- 14 digits q are near four times the quotient
pub near : (d n w q : ℕ) (r : ℤ) → w ≡ 67108864 * d → pos (q * w) +ℤ r ≡ pos (4 ^ 14 * n) → Bounded w r → (3 * (q * d) ≤ 12 * n + 2 * d) × (12 * n ≤ 3 * (q * d) + 2 * d)
near d n w q r e f b =
    let g = ap (λ (z : ℕ). q * z) e in
    (omega (arith, ints), omega (arith, ints))
