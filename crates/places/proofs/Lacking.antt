-- What a number lacks of a power of two, digit by digit.
use Rattle.std.proofs.Common.{◌≡◌, ℕ, zero, suc, ◌+◌, ◌-◌, ◌*◌, ◌^◌, ◌<◌, ◌≤◌, Bool, true, false, not, ltb, ◌≢◌, ◌||◌, List, ◌++◌, length, get_or, take, drop, set, sym, refl, ap, ◌∙◌, subst, arith}
use mathlib.Core.Bool.{beq}
use Rattle.std.proofs.lemmas.List.{length-set, length-append, length-drop, length-take-le, get_or-set_other, take_all, take_at, drop_at}
use Rattle.std.proofs.lemmas.Bool.{lt-ltb, le-ltb}
use Rattle.places.specs.Digits.{bit, bits_value}
use Rattle.places.proofs.Binary.{pow_next, value_more, value_set, value_write, value_split, value_below_at}

-- Below place i the digits ds and those that stood there, ys, add up to 2^i, once one of them was set; from i on none has changed.
pub record Turned (ds ys : List Bool) (i : ℕ) (seen : Bool) : Type 0 where
  pub long : length ds ≡ length ys
  pub ahead : (k : ℕ) → i ≤ k → get_or ds k false ≡ get_or ys k false
  pub sum : bits_value (take i ds) + bits_value (take i ys) ≡ bit seen * 2 ^ i

pub turned_none : (ys : List Bool) → Turned ys ys 0 false
unfolding bits_value
turned_none ys = record { long = refl; ahead = λ k _. refl; sum = refl }

-- a digit of the one number, from that of the other
turned : (d s : Bool) → bit (not (beq d s)) + bit d + bit s ≡ 2 * bit (s || d)
turned true true = refl
turned true false = refl
turned false true = refl
turned false false = refl

pub turned_more : (ds ys : List Bool) (i : ℕ) (s : Bool) → i < length ds → Turned ds ys i s → Turned (set ds i (not (beq (get_or ds i false) s))) ys (i + 1) (s || get_or ds i false)
turned_more ds ys i s within t =
    let d : Bool = get_or ds i false in
    let same : bit (get_or ys i false) * 2 ^ i ≡ bit d * 2 ^ i = ap (λ (b : Bool). bit b * 2 ^ i) (sym (t.ahead i (omega arith))) in
    record {
      long = length-set ds i (not (beq d s)) ∙ t.long;
      ahead = λ k le. let ne : k ≢ i = omega arith in rw (get_or-set_other ds i k (not (beq d s)) false ne) (t.ahead k (omega arith));
      sum =
          omega (
            arith,
            t.sum,
            same,
            value_set ds i within (not (beq d s)),
            value_more ys i (omega (arith, t.long)) false,
            ap (λ (z : ℕ). z * 2 ^ i) (turned d s),
            ap (λ (p : ℕ). bit (s || d) * p) (pow_next i),
          );
    }

-- the value of digits is that of the ones below a place, where it is less
lowest : (v t p h : ℕ) → v ≡ t + p * h → v < p → v ≡ t
lowest v t p zero e lt = omega (arith, e)
lowest v t p (suc h) e lt = absurd (omega (arith, e))

none_above : (v t p h : ℕ) → v ≡ t + p * h → v < p → h ≡ 0
none_above v t p zero e lt = refl
none_above v t p (suc h) e lt = absurd (omega (arith, e))

made_up : (s d : Bool) (w v y p : ℕ) → w + bit d * p ≡ v + bit (not s) * p → v + y ≡ bit s * p → v < p → (bit d * p ≤ v) → w + y ≡ p
made_up true true w v y p e f lt le = absurd (omega arith)
made_up true false w v y p e f lt le = omega (arith, e, f)
made_up false true w v y p e f lt le = absurd (omega arith)
made_up false false w v y p e f lt le = omega (arith, e, f)

pub turned_all : (ds xs : List Bool) (i : ℕ) (s : Bool) → i ≡ 317 → length xs ≡ 576 → Turned ds (take 317 xs) i s → bits_value xs < 2 ^ 317 → bits_value (set (ds ++ drop 317 xs) 317 (not s)) + bits_value xs ≡ 2 ^ 317
turned_all ds xs i s e long t lt =
    let n : length ds ≡ 317 = t.long ∙ length-take-le 317 xs (omega arith) in
    let zs : List Bool = ds ++ drop 317 xs in
    let sum = subst (λ (k : ℕ). bits_value (take k ds) + bits_value (take k (take 317 xs)) ≡ bit s * 2 ^ k) e t.sum in
    let low = lowest (bits_value xs) (bits_value (take 317 xs)) (2 ^ 317) (bits_value (drop 317 xs)) (value_split 317 xs) lt in
    let high = none_above (bits_value xs) (bits_value (take 317 xs)) (2 ^ 317) (bits_value (drop 317 xs)) (value_split 317 xs) lt in
    let within : 317 < length zs = omega (arith, length-append ds (drop 317 xs), length-drop 317 xs) in
    let ys : take 317 (take 317 xs) ≡ take 317 xs = take_all 317 (take 317 xs) (omega arith) in
    let front : take 317 zs ≡ ds = take_at ds (drop 317 xs) 317 n in
    let all : take 317 ds ≡ ds = take_all 317 ds (omega arith) in
    let back : drop 317 zs ≡ drop 317 xs = drop_at ds (drop 317 xs) 317 n in
    let value : bits_value zs ≡ bits_value ds = omega (arith, value_split 317 zs, ap bits_value front, ap bits_value back, high) in
    let written = value_write zs 317 (not s) within in
    let more = value_more zs 317 within false in
    let some = value_split 318 zs in
    made_up s (get_or zs 317 false) (bits_value (set zs 317 (not s))) (bits_value ds) (bits_value xs) (2 ^ 317) (rw value at written) (omega (arith, sum, ap bits_value ys, ap bits_value all, low)) (rw front at (value_below_at zs 317)) (omega (arith, more, some, value))

-- A number raised by p, below 2p, whose digit at p is b.
pub at_raise : (xs : List Bool) (i : ℕ) → i < length xs → bits_value xs < 2 ^ (i + 1) → (get_or xs i false ≡ true → 2 ^ i ≤ bits_value xs) × (get_or xs i false ≡ false → bits_value xs < 2 ^ i)
at_raise xs i within lt =
    let low : bits_value xs ≡ bits_value (take (i + 1) xs) = lowest (bits_value xs) (bits_value (take (i + 1) xs)) (2 ^ (i + 1)) (bits_value (drop (i + 1) xs)) (value_split (i + 1) xs) lt in
    let parts = value_more xs i within false in (
      λ e. let one : bit (get_or xs i false) * 2 ^ i ≡ 2 ^ i = ap (λ (b : Bool). bit b * 2 ^ i) e ∙ omega arith in omega (arith, low, parts, one),
      λ e. let none : bit (get_or xs i false) * 2 ^ i ≡ 0 = ap (λ (b : Bool). bit b * 2 ^ i) e ∙ omega arith in omega (arith, low, parts, none, value_below_at xs i),
    )

-- the two ways of a number raised by p
pub not_below : (t u d p v : ℕ) → t + d ≡ u + p → p ≤ t → v + p ≡ t → (false ≡ ltb u d) × (v ≡ u - d + (d - u))
not_below t u d p v e le f = (sym (le-ltb u d (omega arith)), omega arith)

pub below_raise : (t u d p v : ℕ) → t + d ≡ u + p → t < p → v + t ≡ p → (true ≡ ltb u d) × (v ≡ u - d + (d - u))
below_raise t u d p v e lt f = (sym (lt-ltb u d (omega arith)), omega arith)

-- a set digit taken out
pub cleared : (xs : List Bool) (i : ℕ) → i < length xs → get_or xs i false ≡ true → bits_value (set xs i false) + 2 ^ i ≡ bits_value xs
cleared xs i within e =
    let one : bit (get_or xs i false) * 2 ^ i ≡ 2 ^ i = ap (λ (b : Bool). bit b * 2 ^ i) e ∙ omega arith in
    omega (arith, value_write xs i false within, one)
