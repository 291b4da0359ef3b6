use Rattle.std.proofs.Common.{◌≡◌, ℕ, ◌+◌, ◌-◌, ◌*◌, ◌^◌, ◌<◌, Bool, List, take, ap, subst, inl, arith}
use Rattle.places.specs.Digits.{bits_value}
use Rattle.places.specs.Asking.{Scales}
use Rattle.places.proofs.Binary.{value_below_at}
use Rattle.places.proofs.Asked.{topped, topped_some, asks, scales}
use Rattle.places.proofs.pair.Pair.of.Goals as goal

pub returns-then-top-eq0 : goal.returns-then-top-eq0
unfolding bits_value
returns-then-top-eq0 c =
    let s : ℕ = bits_value c.args.sum.now.digits in
    let none : c.leading-top.result.left ≡ 0 = c.leading-top.ensures.all (omega arith) in
    let low : bits_value (take c.leading-top.result.left c.args.sum.now.digits) ≡ 0 = ap (λ (n : ℕ). bits_value (take n c.args.sum.now.digits)) none in
    inl (omega (arith, c.leading-top.ensures.parts, low, ap (λ (n : ℕ). n * 2 ^ c.leading-top.result.left) c.if-top-eq0.true))

pub returns : goal.returns
returns c =
    let xs : List Bool = c.args.sum.now.digits in
    let t : ℕ = c.leading-top.result.number in
    let left : ℕ = c.leading-top.result.left in
    let d : ℕ = c.doubled-scaled.result.number in
    let k : ℕ = c.doubled-scaled.result.times in
    let low : ℕ = bits_value (take left xs) in
    let times : ℕ = c.doubled-whole.result.times in
    let small : low < 2 ^ left = value_below_at xs left in
    let top = topped (bits_value xs) t low left c.doubled-whole.result.number times (16777216 * d) c.leading-top.ensures.parts small c.doubled-whole.ensures.is c.doubled-whole.ensures.few c.leading-top.ensures.all c.doubled-whole.ensures.kept in
    let x : 64 + left - times + k ≡ 64 + left + k - times = omega (arith, c.doubled-whole.ensures.few) in
    let below : c.doubled-whole.result.number < 33554432 * d = omega (arith, c.doubled-whole.ensures.below (omega (arith, c.leading-top.ensures.below))) in (
      topped_some (bits_value xs) t low left c.leading-top.ensures.parts (omega arith),
      omega arith,
      asks (bits_value xs) c.args.count d k c.doubled-whole.result.number (64 + left - times) (low * 2 ^ 64) c.doubled-scaled.ensures.is c.doubled-scaled.ensures.reached (omega (arith, c.doubled-scaled.ensures.below (omega arith))) top c.doubled-whole.ensures.reached below,
      subst (λ (e : ℕ). Scales 64 (bits_value xs) c.args.count d c.doubled-whole.result.number e c.any_below.result) x (scales (bits_value xs) c.args.count d k c.doubled-whole.result.number (64 + left - times) low c.any_below.result c.doubled-scaled.ensures.is (omega (arith, c.doubled-scaled.ensures.reached)) top c.any_below.ensures),
      omega (arith, c.leading-top.ensures.within, c.doubled-scaled.ensures.few),
    )
