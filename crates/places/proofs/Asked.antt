-- The pair that a quotient asks for: how it is found, that it is the only one, and what an answer from it has to know.
use Rattle.std.proofs.Common.{◌≡◌, ℕ, zero, suc, ◌+◌, ◌-◌, ◌*◌, ◌/◌, ◌%◌, ◌^◌, ◌<◌, ◌≤◌, Bool, false, not, ◌||◌, eqb, ltb, sym, ap, ◌∙◌, subst, ⊎_elim, mul-le-mul_right, lt_of_mul-lt-mul_right, mul-le-mul_left, mul-lt-mul_of_pos_right, le_of_mul-le-mul_right, arith}
use native.Mathlib.Nat.{pow-le-pow_right}
use Rattle.std.proofs.lemmas.Bool.{cases_lt, cases_order, lt-ltb, ne_eqb}
use Rattle.std.proofs.lemmas.Nat.{pow_pos, pow-add, div-mul-add, div-add-mod', div_below, le-div, mod_below, mul-le}
use Rattle.places.specs.Asking.{Asks, Scales}
use Rattle.places.proofs.Binary.{pow_next}

-- ---- how it is found

-- The whole part of s * 2^64 / 2^x is n, and r is left.
pub record Topped (s n x r : ℕ) : Type 0 where
  pub parts : n * 2 ^ x + r ≡ s * 2 ^ 64
  pub left : r < 2 ^ x

-- t is the number of the digits from a place up, doubled where that reaches no limit
pub topped : (s t low place n times limit : ℕ) → t * 2 ^ place + low ≡ s → low < 2 ^ place → n ≡ t * 2 ^ times → times ≤ 48 → (t < limit → place ≡ 0) → (limit ≤ t → times ≡ 0) → Topped s n (64 + place - times) (low * 2 ^ 64)
topped s t low place n times limit parts lt is few short full =
    let x : ℕ = 64 + place - times in
    let e : times + x ≡ place + 64 = omega arith in
    let p : 2 ^ times * 2 ^ x ≡ 2 ^ place * 2 ^ 64 = sym (pow-add 2 times x) ∙ ap (λ (k : ℕ). 2 ^ k) e ∙ pow-add 2 place 64 in
    record {
      parts = omega (arith, ap (λ (z : ℕ). z * 2 ^ x) is, ap (λ (z : ℕ). t * z) p, ap (λ (z : ℕ). z * 2 ^ 64) parts);
      left =
          ⊎_elim
          (λ (h : t < limit).
          let z : low ≡ 0 = subst (λ (k : ℕ). low < 2 ^ k → low ≡ 0) (sym (short h)) (λ q. omega (arith, q)) lt in
          rw z (pow_pos x))
          (λ (h : limit ≤ t).
          let w : x ≡ place + 64 = omega (arith, full h) in
          rw (w, pow-add 2 place 64) (mul-lt-mul_of_pos_right lt (pow_pos 64)))
          (cases_lt t limit);
    }

-- a digit from some place up, so the number is not 0
pub topped_some : (s t low place : ℕ) → t * 2 ^ place + low ≡ s → 0 < t → 0 < s
topped_some s t low place parts some = omega (arith, parts, mul-le 1 1 t (2 ^ place) some (pow_pos place))

pub asks : (s n d k m x r : ℕ) → d ≡ n * 2 ^ k → 2 ^ 23 ≤ d → d < 2 ^ 24 → Topped s m x r → 2 ^ 24 * d ≤ m → m < 2 ^ 25 * d → Asks s n d m
asks s n d k m x r is low high t least most =
    record {
      doublings = k;
      doubled = is;
      normal = (low, high);
      raise = 64;
      lower = x;
      whole = sym (ap (λ (z : ℕ). z / 2 ^ x) (sym t.parts) ∙ div-mul-add m (2 ^ x) r t.left);
      band = (omega (arith, t.parts, mul-le-mul_right (2 ^ x) least), omega (arith, t.parts, t.left, mul-le-mul_right (2 ^ x) most));
    }

positive_by : (a p : ℕ) → 0 < p → ltb 0 (a * p) ≡ ltb 0 a
positive_by zero p some = let z : 0 * p ≡ 0 = omega arith in ap (λ (n : ℕ). ltb 0 n) z
positive_by (suc a) p some = lt-ltb 0 (suc a * p) (mul-le 1 1 (suc a) p (omega arith) some) ∙ sym (lt-ltb 0 (suc a) (omega arith))

pub scales : (s n d k m x low : ℕ) (more : Bool) → d ≡ n * 2 ^ k → 0 < d → Topped s m x (low * 2 ^ 64) → more ≡ ltb 0 low → Scales 64 s n d m (x + k) more
scales s n d k m x low more is some t told =
    let unit : n * 2 ^ (x + k) ≡ d * 2 ^ x = ap (λ (z : ℕ). n * z) (pow-add 2 x k) ∙ omega (arith, ap (λ (z : ℕ). z * 2 ^ x) is) in
    record {
      rest = low * 2 ^ 64 * d;
      parts = omega (arith, ap (λ (z : ℕ). m * z) unit, ap (λ (z : ℕ). z * d) t.parts);
      below = rw unit (omega (arith, mul-lt-mul_of_pos_right t.left some));
      told = told ∙ sym (positive_by low (2 ^ 64) (pow_pos 64)) ∙ sym (positive_by (low * 2 ^ 64) d some);
    }

-- ---- the only one

not_further : (n k k' : ℕ) → 2 ^ 23 ≤ n * 2 ^ k → n * 2 ^ k' < 2 ^ 24 → k < k' → ⊥
not_further n k k' low high lt =
    let p : 2 ^ (k + 1) ≤ 2 ^ k' = pow-le-pow_right (omega arith) (omega arith) in
    omega (arith, mul-le-mul_left n p, ap (λ (z : ℕ). n * z) (pow_next k))

same_divisor : (n d d' k k' : ℕ) → d ≡ n * 2 ^ k → d' ≡ n * 2 ^ k' → (2 ^ 23 ≤ d) × (d < 2 ^ 24) → (2 ^ 23 ≤ d') × (d' < 2 ^ 24) → d ≡ d'
same_divisor n d d' k k' e e' h h' =
    ⊎_elim
    (λ (z : k ≡ k'). e ∙ ap (λ (x : ℕ). n * 2 ^ x) z ∙ sym e')
    (λ z.
    ⊎_elim
    (λ (lt : k < k'). absurd (not_further n k k' (omega arith) (omega arith) lt))
    (λ (gt : k' < k). absurd (not_further n k' k (omega arith) (omega arith) gt))
    z)
    (cases_order k k')

-- shifts of s that both bring it to the limit differ in nothing
not_lower : (s l u v u' v' : ℕ) → l * 2 ^ v ≤ s * 2 ^ u → s * 2 ^ u' < 2 * l * 2 ^ v' → u + v' < u' + v → ⊥
not_lower s l u v u' v' low high lt =
    let p : 2 ^ (u + v' + 1) ≤ 2 ^ (u' + v) = pow-le-pow_right (omega arith) (omega arith) in
    omega (
      arith,
      mul-le-mul_right (2 ^ v') low,
      mul-lt-mul_of_pos_right high (pow_pos v),
      mul-le-mul_left s p,
      ap (λ (z : ℕ). s * z) (pow_next (u + v')),
      ap (λ (z : ℕ). s * z) (pow-add 2 u v'),
      ap (λ (z : ℕ). s * z) (pow-add 2 u' v),
    )

whole_at : (s u v w : ℕ) → s * 2 ^ u / 2 ^ v ≡ s * 2 ^ (u + w) / (2 ^ v * 2 ^ w)
whole_at s u v w =
    let m : ℕ = s * 2 ^ u / 2 ^ v in
    let r : ℕ = s * 2 ^ u % 2 ^ v in
    let e : m * (2 ^ v * 2 ^ w) + r * 2 ^ w ≡ s * 2 ^ (u + w) = omega (arith, ap (λ (z : ℕ). z * 2 ^ w) (div-add-mod' (s * 2 ^ u) (2 ^ v)), ap (λ (z : ℕ). s * z) (pow-add 2 u w)) in
    let lt : r * 2 ^ w < 2 ^ v * 2 ^ w = mul-lt-mul_of_pos_right (mod_below (s * 2 ^ u) (2 ^ v) (pow_pos v)) (pow_pos w) in
    sym (ap (λ (z : ℕ). z / (2 ^ v * 2 ^ w)) (sym e) ∙ div-mul-add m (2 ^ v * 2 ^ w) (r * 2 ^ w) lt)

-- The pair that s / n asks for is determined.
pub asks_only : (s n d m d' m' : ℕ) → Asks s n d m → Asks s n d' m' → (d ≡ d') × (m ≡ m')
asks_only s n d m d' m' a b =
    let same : d ≡ d' = same_divisor n d d' a.doublings b.doublings a.doubled b.doubled a.normal b.normal in
    let band : (2 ^ 24 * d * 2 ^ b.lower ≤ s * 2 ^ b.raise) × (s * 2 ^ b.raise < 2 ^ 25 * d * 2 ^ b.lower) = subst (λ (z : ℕ). (2 ^ 24 * z * 2 ^ b.lower ≤ s * 2 ^ b.raise) × (s * 2 ^ b.raise < 2 ^ 25 * z * 2 ^ b.lower)) (sym same) b.band in
    let l : ℕ = 2 ^ 24 * d in
    let up : s * 2 ^ a.raise < 2 * l * 2 ^ a.lower = omega (arith, a.band.1) in
    let up' : s * 2 ^ b.raise < 2 * l * 2 ^ b.lower = omega (arith, band.1) in
    let shift : a.raise + b.lower ≡ b.raise + a.lower = ⊎_elim (λ e. e) (λ z. ⊎_elim (λ lt. absurd (not_lower s l a.raise a.lower b.raise b.lower a.band.0 up' lt)) (λ gt. absurd (not_lower s l b.raise b.lower a.raise a.lower band.0 up gt)) z) (cases_order (a.raise + b.lower) (b.raise + a.lower)) in
    let unit : 2 ^ b.lower * 2 ^ a.lower ≡ 2 ^ a.lower * 2 ^ b.lower = omega arith in (
      same,
      a.whole
          ∙ whole_at s a.raise a.lower b.lower
          ∙ ap (λ (z : ℕ). s * 2 ^ z / (2 ^ a.lower * 2 ^ b.lower)) shift
          ∙ ap (λ (z : ℕ). s * 2 ^ (b.raise + a.lower) / z) (sym unit)
          ∙ sym (b.whole ∙ whole_at s b.raise b.lower a.lower),
    )

-- ---- what an answer has to know

-- The dividend lies in the engine's range.
pub asks_band : (s n d m : ℕ) → Asks s n d m → (2 ^ 24 * d ≤ m) × (m < 2 ^ 25 * d)
asks_band s n d m a =
    let some = pow_pos a.lower in
    (rw a.whole (le-div (2 ^ 24 * d) (s * 2 ^ a.raise) (2 ^ a.lower) some a.band.0), rw a.whole (div_below (s * 2 ^ a.raise) (2 ^ a.lower) (2 ^ 25 * d) some a.band.1))

-- another bias, and other units of both numbers: the scale moves with them
pub scales_moved : (c a n d m e f j u w : ℕ) (more : Bool) → u + f ≡ e + (j + w) → Scales c a n d m e more → Scales (c + j) (a * 2 ^ w) (n * 2 ^ u) d m f more
scales_moved c a n d m e f j u w more h s =
    let up : 2 ^ u * 2 ^ f ≡ 2 ^ e * 2 ^ (j + w) = sym (pow-add 2 u f) ∙ ap (λ (k : ℕ). 2 ^ k) h ∙ pow-add 2 e (j + w) in
    let unit : n * 2 ^ u * 2 ^ f ≡ n * 2 ^ e * 2 ^ (j + w) = omega (arith, ap (λ (z : ℕ). n * z) up) in
    let bias : a * 2 ^ w * 2 ^ (c + j) * d ≡ a * 2 ^ c * d * 2 ^ (j + w) = ap (λ (z : ℕ). a * 2 ^ w * z * d) (pow-add 2 c j) ∙ omega (arith, ap (λ (z : ℕ). a * 2 ^ c * d * z) (pow-add 2 j w)) in
    record {
      rest = s.rest * 2 ^ (j + w);
      parts = omega (arith, bias, ap (λ (z : ℕ). m * z) unit, ap (λ (z : ℕ). z * 2 ^ (j + w)) s.parts);
      below = rw unit (mul-lt-mul_of_pos_right s.below (pow_pos (j + w)));
      told = s.told ∙ sym (positive_by s.rest (2 ^ (j + w)) (pow_pos (j + w)));
    }

told : (r unit t d rest : ℕ) (more : Bool) → 0 < unit → 0 < d → t * d ≡ r * unit + rest → more ≡ ltb 0 rest → (not (eqb r 0) || more) ≡ ltb 0 t
told zero unit t d rest more up dp e h =
    let z : t * d ≡ rest = omega (arith, e) in
    h ∙ ap (λ (n : ℕ). ltb 0 n) (sym z) ∙ positive_by t d dp
told (suc r) unit t d rest more up dp e h =
    let some : 0 < t * d = omega (arith, e) in
    let ne : eqb (suc r) 0 ≡ false = ne_eqb (suc r) 0 (λ z. omega arith) in
    rw ne (sym (lt-ltb 0 (t * d) some) ∙ positive_by t d dp)

-- The whole quotient of the pair, with its scale, is what a / b is near to: t is what it lacks, and that is nothing exactly where neither the
-- division nor the cut left anything.
pub near : (bias a b d m scale : ℕ) (more : Bool) → 0 < d → Scales bias a b d m scale more → (t : ℕ) × (m / d * (b * 2 ^ scale) + t ≡ a * 2 ^ bias) × (t < b * 2 ^ scale) × ((not (eqb (m % d) 0) || more) ≡ ltb 0 t)
near bias a b d m scale more some s =
    let unit : ℕ = b * 2 ^ scale in
    let whole : ℕ = a * 2 ^ bias in
    let q : ℕ = m / d in
    let r : ℕ = m % d in
    let parts : q * d + r ≡ m = div-add-mod' m d in
    let rd : r < d = mod_below m d some in
    let scaled : q * unit * d + r * unit ≡ m * unit = omega (arith, ap (λ (z : ℕ). z * unit) parts) in
    let le : q * unit ≤ whole = le_of_mul-le-mul_right (omega (arith, scaled, s.parts)) some in
    let t : ℕ = whole - q * unit in
    let is : q * unit + t ≡ whole = omega arith in
    let left : t * d ≡ r * unit + s.rest = omega (arith, ap (λ (z : ℕ). z * d) is, scaled, s.parts) in
    let lt : t < unit = lt_of_mul-lt-mul_right d (omega (arith, left, s.below, mul-le-mul_right unit rd)) in
    (t, is, lt, told r unit t d s.rest more (omega (arith, s.below)) some left s.told)
