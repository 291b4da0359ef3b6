-- That a polynomial is near the reciprocal wherever its argument lies in a range, as computed tests.
use Rattle.std.proofs.Common.{◌≡◌, ℕ, ◌+◌, ◌-◌, ◌*◌, ◌/◌, ◌^◌, ◌<◌, ◌≤◌, Bool, true, ◌&&◌, ltb, leb, refl, mul-le-mul_left, arith}
use Rattle.std.proofs.lemmas.Bool.{and_parts, leb-true, ltb-true}
use Rattle.cubic.specs.Polynomial.{high, Value, Valued}
use Rattle.cubic.specs.Reciprocal.{Start}
use Rattle.cubic.proofs.Ranges.{all, each}

-- every part is in range at x
unfoldable pub sound : ℕ → ℕ → ℕ → ℕ → ℕ → Bool
sound a b c e x =
    (leb (a * x) (b * 2 ^ 10) && ltb (b * 2 ^ 10) (2 ^ 64)) &&
    (leb (c * x * 2 ^ 20) (high a b x + e * 2 ^ 30) && ltb (high a b x + e * 2 ^ 30) (2 ^ 62))

-- the value m is near the reciprocals of the least and of the greatest divisor with the leading bits x
unfoldable pub close : ℕ → ℕ → Bool
close x m = leb (2 ^ 47) (m * (8192 * x) + 2 ^ 38) && leb (m * (8192 * x + 8191)) (2 ^ 47 + 2 ^ 38)

unfoldable pub closes : ℕ → ℕ → ℕ → ℕ → ℕ → Bool
closes a b c e x = close x ((high a b x + e * 2 ^ 30 - c * x * 2 ^ 20) / 2 ^ 30)

sound_at : (a b c e x : ℕ) → sound a b c e x ≡ true → Valued a b c e x
unfolding sound
sound_at a b c e x h =
    let p = and_parts _ _ h in
    let q = and_parts _ _ p.0 in
    let r = and_parts _ _ p.1 in
    record {
      difference = leb-true _ _ q.0;
      coefficient = ltb-true _ _ q.1;
      sum = leb-true _ _ r.0;
      fits = ltb-true _ _ r.1;
    }

near_at : (x m d : ℕ) → close x m ≡ true → x ≡ d / 2 ^ 13 → Start 9 d m
unfolding close
near_at x m d h e =
    let p = and_parts (leb (2 ^ 47) (m * (8192 * x) + 2 ^ 38)) (leb (m * (8192 * x + 8191)) (2 ^ 47 + 2 ^ 38)) h in
    let lo : 2 ^ 47 ≤ m * (8192 * x) + 2 ^ 38 = leb-true _ _ p.0 in
    let hi : m * (8192 * x + 8191) ≤ 2 ^ 47 + 2 ^ 38 = leb-true _ _ p.1 in
    let a : 8192 * x ≤ d = omega arith in
    let b : d ≤ 8192 * x + 8191 = omega arith in
    omega (arith, mul-le-mul_left m a, mul-le-mul_left m b)

-- 512 arguments from `lo` on
pub valued : {a b c e : ℕ} (lo x : ℕ) → all (sound a b c e) 9 lo ≡ true → lo ≤ x → x < lo + 512 → Valued a b c e x
valued {a} {b} {c} {e} lo x h p q = sound_at a b c e x (each (sound a b c e) 9 lo x h p q)

pub near : {a b c e : ℕ} (lo d m : ℕ) → Value a b c e (d / 2 ^ 13) m → all (closes a b c e) 9 lo ≡ true → lo ≤ d / 2 ^ 13 → d / 2 ^ 13 < lo + 512 → Start 9 d m
unfolding closes
near {a} {b} {c} {e} lo d m v h p q =
    near_at (d / 2 ^ 13) m d (rw v.is (each (closes a b c e) 9 lo (d / 2 ^ 13) h p q)) refl
