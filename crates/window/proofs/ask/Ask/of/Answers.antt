use Rattle.std.proofs.Common.{◌≡◌, ℕ, ◌+◌, ◌-◌, refl, arith}
use Rattle.std.proofs.lemmas.Grind.{common_steps}
use Rattle.places.specs.Digits.{bits_value}
use Rattle.places.proofs.Asked.{asks_band, scales_moved}
use Rattle.window.proofs.Facts.{in_range_from}
use Rattle.window.proofs.ask.Ask.of.Goals as goal

pub unwrap-requires : goal.unwrap-requires
unwrap-requires c =
    let p = c.in_ok-pair.pair in
    let a = c.in_ok-pair.ensures.2 in
    let e = in_range_from p.divisor p.dividend a.normal (asks_band (bits_value c.args.sum.now.digits) c.args.count p.divisor p.dividend a) in
    grind (arith, common_steps)

pub returns : goal.returns
returns c =
    let p = c.in_ok-pair.pair in
    let h = c.in_ok-pair.ensures in
    let u : ℕ = c.args.unit in
    let moved : u + (p.exponent + (341 - u)) ≡ p.exponent + (192 + 149) = omega arith in
    let q = rw c.unwrap.ensures at c.new.ensures in
    let moved = scales_moved 64 (bits_value c.args.sum.now.digits) c.args.count p.divisor p.dividend p.exponent (p.exponent + (341 - u)) 192 u 149 p.more moved h.3 in
    rw (q.1, q.2) (h.0, refl, h.2, moved)
