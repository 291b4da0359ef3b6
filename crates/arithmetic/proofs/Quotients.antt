-- Which quotients are rounded, and what the rounding is given.
use Rattle.std.proofs.Common.{◌≡◌, ℕ, ◌+◌, ◌*◌, ◌/◌, ◌^◌, ◌<◌, ◌≤◌, Bool, true, false, cond, not, ◌&&◌, eqb, ltb, leb, sym, refl, ap, ◌∙◌, arith, lit<}
use Rattle.std.proofs.lemmas.Bool.{eqb-true, eqb-false, ne_eqb, ltb-true, leb-true, lt-ltb, le-ltb, le-leb, and_parts, not-true}
use Rattle.std.proofs.lemmas.Nat.{le-div}
use Rattle.rounding.specs.Format.{binary32, size, joined, value, is_finite, is_zero}
use Rattle.rounding.specs.Rules.{Meaning, Lawful}
use Rattle.rounding.specs.Rounding.{rounded}
use Rattle.rounding.proofs.Values.{value_low, value_lt}
use Rattle.rounding.proofs.Faithful.{rounded_zero}
use Rattle.rounding.specs.Truncation.{Near}
use Rattle.engines.specs.Band.{in_range, quotient as whole_part}
use Rattle.engines.specs.Meaning.{counted, noted}
use Rattle.engines.specs.declared.meaning.Log.{Log}
use Rattle.arithmetic.specs.Classes.{Tests}
use Rattle.arithmetic.proofs.Nearness.{quotient_near}
use Rattle.arithmetic.specs.Defined.{opposite, plain, quotient, quotient_value, asks, square, square_value}

pub value_pos : (n : ℕ) → 0 < n → 0 < value 8388608 n
value_pos n np = omega (arith, value_low 8388608 0 (lit< tt), value_lt 8388608 0 n (lit< tt) np)

pub value_zero : (n : ℕ) → n ≡ 0 → value 8388608 n ≡ 0
value_zero n z = value_low 8388608 n (omega arith) ∙ z

-- two finite operands, the divisor not zero: the quotient is the rounded exact value
pub quotient_rounds : (m : Meaning) (x y : ℕ) (z : Bool) → Tests x false false true z → Tests y false false true false → quotient binary32 m x y ≡ rounded binary32 m (quotient_value binary32 x y)
quotient_rounds m x y true s t = simp (s.nan_is, s.infinite_is, s.zero_is, t.nan_is, t.infinite_is, t.zero_is)
quotient_rounds m x y false s t = simp (s.nan_is, s.infinite_is, s.zero_is, t.nan_is, t.infinite_is, t.zero_is)

pub divisor_pos : (y : ℕ) → Tests y false false true false → 0 < value 8388608 (size binary32 y)
divisor_pos y t = value_pos (size binary32 y) (omega (arith, eqb-false (size binary32 y) 0 t.zero_is))

pub zero_quotient : (m : Meaning) (x y : ℕ) → Lawful m → Tests x false false true true → Tests y false false true false → quotient binary32 m x y ≡ plain (joined binary32 (opposite binary32 x y) 0) 0
zero_quotient m x y law s t =
    quotient_rounds m x y true s t
    ∙ rounded_zero binary32 m (quotient_value binary32 x y) (lit< tt, lit< tt) law (divisor_pos y t) (value_zero (size binary32 x) (eqb-true (size binary32 x) 0 s.zero_is))

pub no_ask : (x y : ℕ) → Tests x false false true true → Tests y false false true false → asks binary32 x y ≡ false
no_ask x y s t = simp (s.zero_is, s.finite_is, t.zero_is, t.finite_is)

number_tests : (x : ℕ) → (size binary32 x < 2139095040) → (size binary32 x ≡ 0 → ⊥) → Tests x false false true false
number_tests x lt nz =
    record {
      nan_is = le-ltb 2139095040 (size binary32 x) (omega arith);
      infinite_is = ne_eqb (size binary32 x) 2139095040 (λ e. omega arith);
      finite_is = lt-ltb (size binary32 x) 2139095040 lt;
      zero_is = ne_eqb (size binary32 x) 0 nz;
    }

-- an ask has two numbers other than zero
pub asks_tests : (x y : ℕ) → asks binary32 x y ≡ true → Tests x false false true false × Tests y false false true false
asks_tests x y e =
    let p = and_parts _ _ e in
    let q = and_parts _ _ p.0 in
    let r = and_parts _ _ q.1 in (
      number_tests x (ltb-true (size binary32 x) 2139095040 q.0) (eqb-false (size binary32 x) 0 (not-true _ p.1)),
      number_tests y (ltb-true (size binary32 y) 2139095040 r.0) (eqb-false (size binary32 y) 0 (not-true _ r.1)),
    )

-- in range, the whole quotient has 25 bits
pub record Ranged (d n : ℕ) : Type 0 where
  pub some : 0 < d
  pub is : whole_part d n ≡ n / d
  pub long : 16777216 ≤ n / d

pub ranged : (d n : ℕ) → in_range d n ≡ true → Ranged d n
ranged d n e =
    let p = and_parts (leb 8388608 d && ltb d 16777216) (leb (16777216 * d) n && ltb n (33554432 * d)) e in
    let q = and_parts (leb 8388608 d) (ltb d 16777216) p.0 in
    let r = and_parts (leb (16777216 * d) n) (ltb n (33554432 * d)) p.1 in
    let dp : 0 < d = omega (arith, leb-true 8388608 d q.0) in
    record { some = dp; is = simp e; long = le-div 16777216 n d dp (leb-true (16777216 * d) n r.0) }

-- what a question keeps is its range
pub in_range_of : (d n : ℕ) → (8388608 ≤ d) × (d < 16777216) → (16777216 * d ≤ n) × (n < 33554432 * d) → in_range d n ≡ true
in_range_of d n p q = simp (le-leb 8388608 d p.0, lt-ltb d 16777216 p.1, le-leb (16777216 * d) n q.0, lt-ltb n (33554432 * d) q.1)

pub asked_log : (log : Log) (d n d' n' : ℕ) → in_range d n ≡ true → d ≡ d' → n ≡ n' → noted log d n ≡ counted log d' n'
asked_log log d n d' n' e p q = simp e (ap (λ (z : ℕ). counted log z n) p ∙ ap (λ (z : ℕ). counted log d' z) q)

shifted : (b : Bool) (s : ℕ) → s * cond b 16777216 33554432 ≡ s * 2 ^ cond b 24 25
shifted true s = refl
shifted false s = refl

pub pair_near : (vx vy sx sy px py d n q x : ℕ) (cut : Bool) → in_range d n ≡ true → vx * 8388608 ≡ sx * 2 ^ px → vy * 8388608 ≡ sy * 2 ^ py → d ≡ sy → n ≡ sx * cond (leb sy sx) 16777216 33554432 → x + py + cond (leb sy sx) 24 25 ≡ px + 405 → q ≡ whole_part d n → cut ≡ not (eqb (q * d) n) → Near q x cut (vx * 2 ^ 149) vy
pair_near vx vy sx sy px py d n q x cut r ve we de ne se qe ce =
    let g = ranged d n r in
    quotient_near vx vy sx d px py n q x (cond (leb sy sx) 24 25) cut g.some ve (we ∙ ap (λ (z : ℕ). z * 2 ^ py) (sym de)) (ne ∙ shifted (leb sy sx) sx) se (qe ∙ g.is) ce

pub dividend_same : (a b a' b' : ℕ) → a ≡ a' → b ≡ b' → a * cond (leb b a) 16777216 33554432 ≡ a' * cond (leb b' a') 16777216 33554432
dividend_same a b a' b' p q = simp (p, q)

-- a finite operand: its square is the rounded exact value
pub square_rounds : (m : Meaning) (x : ℕ) (z : Bool) → Tests x false false true z → square binary32 m x ≡ rounded binary32 m (square_value binary32 x)
square_rounds m x z s = simp (s.nan_is, s.infinite_is)

pub zero_square : (m : Meaning) (x : ℕ) → Lawful m → Tests x false false true true → square binary32 m x ≡ plain 0 0
zero_square m x law s =
    let v : value 8388608 (size binary32 x) ≡ 0 = value_zero (size binary32 x) (eqb-true (size binary32 x) 0 s.zero_is) in
    square_rounds m x true s
    ∙ rounded_zero binary32 m (square_value binary32 x) (lit< tt, lit< tt) law (lit< tt) (ap (λ (z : ℕ). z * z) v)

pub finite_tests : (x : ℕ) → is_finite binary32 x ≡ true → is_zero binary32 x ≡ false → Tests x false false true false
finite_tests x f z = number_tests x (ltb-true (size binary32 x) 2139095040 f) (eqb-false (size binary32 x) 0 z)
