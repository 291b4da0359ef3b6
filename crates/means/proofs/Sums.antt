-- What a mean's answer and question come to.
use Rattle.std.proofs.Common.{◌≡◌, ℕ, ◌*◌, ◌^◌, ◌<◌, ◌≤◌, Bool, true, false, not, ◌||◌, eqb, List, [], ◌∷◌, length, ℤ, pos, negsuc, nat_abs, sym, refl, ap, ◌∙◌, subst, arith, lit<}
use Rattle.std.proofs.lemmas.Bool.{eq-eqb, ne_eqb}
use Rattle.std.proofs.lemmas.Nat.{pow_pos, mul-le}
use Rattle.engines.specs.Band.{in_range, quotient as whole_part}
use Rattle.engines.specs.Meaning.{counted}
use Rattle.engines.specs.declared.meaning.Log.{Log}
use Rattle.rounding.specs.declared.encoding.Encoding.{Encoding}
use Rattle.rounding.specs.Format.{binary32, joined}
use Rattle.rounding.specs.Rules.{Meaning, Lawful}
use Rattle.rounding.specs.Rounding.{rounded}
use Rattle.rounding.specs.Truncation.{Near}
use Rattle.rounding.proofs.Faithful.{rounded_zero}
use Rattle.arithmetic.specs.Defined.{aligned}
use Rattle.arithmetic.proofs.Scaling.{aligned_only}
use Rattle.arithmetic.proofs.Quotients.{ranged}
use Rattle.places.specs.Asking.{Asks, Scales}
use Rattle.window.specs.declared.average.Average.{Average}
use Rattle.window.specs.declared.average.Average.TheVariants.{Mean, MeanSquare}
use Rattle.window.specs.Average.{sum_sign, sum_size, sum_unit}
use Rattle.window.specs.Replies.{total, below_zero, sum_z}
use Rattle.means.specs.Defined.{sum_log, sum_dividend, average_of, average_log}
use Rattle.means.proofs.Asking.{dividend_only}
use Rattle.means.proofs.Nearness.{mean_near}

pub sum_near : (s n u d N x q : ℕ) (more cut : Bool) → 0 < n → in_range d N ≡ true → Scales 256 (s * 2 ^ 149) (n * 2 ^ u) d N x more → q ≡ whole_part d N → cut ≡ (not (eqb (q * d) N) || more) → Near q x cut (s * 2 ^ 149) (n * 2 ^ u)
sum_near s n u d N x q more cut np r sc qe ce =
    let g = ranged d N r in
    mean_near (s * 2 ^ 149) (n * 2 ^ u) d N sc.rest q x cut (mul-le 1 1 n (2 ^ u) np (pow_pos u)) g.some sc.parts sc.below (qe ∙ g.is)
    (ce ∙ ap (λ (b : Bool). not (eqb (q * d) N) || b) sc.told)

-- a sum of zero
pub zero_sum : (m : Meaning) (sign : Bool) (s d : ℕ) → Lawful m → 0 < d → s ≡ 0 → sign ≡ false → rounded binary32 m (record { negative = sign; num = s; den = d }) ≡ record { bits = 0; flags = 0 }
zero_sum m sign s d law dp sz no_sign =
    rounded_zero binary32 m (record { negative = sign; num = s; den = d }) (lit< tt, lit< tt) law dp sz
    ∙ ap (λ (b : Bool). record { bits = joined binary32 b 0; flags = 0 }) no_sign

pub no_ask_log : (log : Log) (s n : ℕ) → s ≡ 0 → log ≡ sum_log log s n
no_ask_log log s n z = simp (eq-eqb s 0 z) refl

pub ask_log : (log : Log) (s n d N : ℕ) → 0 < s → 0 < n → n < 16777216 → Asks s n d N → counted log d N ≡ sum_log log s n
ask_log log s n d N sp np nl a =
    let big : 8388608 ≤ n * 2 ^ a.doublings = subst (λ (z : ℕ). 8388608 ≤ z) a.doubled a.normal.0 in
    let small : n * 2 ^ a.doublings < 16777216 = subst (λ (z : ℕ). z < 16777216) a.doubled a.normal.1 in
    let de : d ≡ aligned n = a.doubled ∙ sym (aligned_only n a.doublings np nl big small) in
    let dp : 0 < d = omega (arith, a.normal.0) in
    let ne : N ≡ sum_dividend s d = a.whole ∙ dividend_only s d a.raise a.lower sp dp a.normal.1 a.band.0 a.band.1 in
    simp (ne_eqb s 0 (λ z. omega arith))
    (ap (λ (z : ℕ). counted log z N) de ∙ ap (λ (z : ℕ). counted log (aligned n) z) (ne ∙ ap (sum_dividend s) de))

-- a number of size zero is not below it
no_sign : (z : ℤ) → nat_abs z ≡ 0 → below_zero z ≡ false
no_sign (pos n) e = refl
no_sign (negsuc n) e = absurd (omega arith)

-- ---- either average, by its sum
pub average_is : (which : Average) (m : Meaning) (xs : List Encoding) → average_of which m xs ≡ rounded binary32 m (record { negative = sum_sign which xs; num = sum_size which xs; den = length xs * 2 ^ sum_unit which })
average_is Mean m xs = refl
average_is MeanSquare m xs = refl

pub average_asks : (which : Average) (log : Log) (xs : List Encoding) → average_log which log xs ≡ sum_log log (sum_size which xs) (length xs)
average_asks Mean log xs = refl
average_asks MeanSquare log xs = refl

-- nothing stands: nothing is asked
pub empty_log : (which : Average) (log : Log) (xs : List Encoding) → length xs ≡ 0 → average_log which log xs ≡ log
unfolding sum_z
empty_log Mean log [] e = refl
empty_log MeanSquare log [] e = refl
empty_log which log (x ∷ xs) e = absurd (omega arith)

-- a sum of zero has no sign
pub zero_sign : (which : Average) (xs : List Encoding) → sum_size which xs ≡ 0 → sum_sign which xs ≡ false
zero_sign Mean xs e = no_sign (total xs) e
zero_sign MeanSquare xs e = refl
