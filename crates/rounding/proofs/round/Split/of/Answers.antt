use Rattle.std.proofs.Common.{ℕ, ◌+◌, ◌-◌, sym, ◌∙◌, arith, lit<}
use Rattle.rounding.proofs.Truncations.{near_split, near_like, placed}
use Rattle.rounding.proofs.round.Split.of.Goals as goal

pub overflow_cast-result : goal.overflow_cast-result
overflow_cast-result c =
    let p = placed _ _ _ _ _ _ _ c.length.ensures.within.0 c.length.ensures.bits.0 c.length.ensures.bits.1 c.saturating_sub-at.ensures c.of-tail.ensures in
    omega (arith, p.0)

pub invariant_of-result : goal.invariant_of-result
invariant_of-result c =
    let p = placed _ _ _ _ _ _ _ c.length.ensures.within.0 c.length.ensures.bits.0 c.length.ensures.bits.1 c.saturating_sub-at.ensures c.of-tail.ensures in
    record { within = (omega arith, p.0) }

pub returns : goal.returns
returns c =
    let q : ℕ = c.quotient-quotient.result in
    let x : ℕ = c.scale-scale.result in
    let at : ℕ = c.saturating_sub-at.result in
    let t = c.of-tail.result in
    let p = placed q x c.length.result at t.kept t.half t.more c.length.ensures.within.0 c.length.ensures.bits.0 c.length.ensures.bits.1 c.saturating_sub-at.ensures c.of-tail.ensures in
    λ a b bp near.
    let n = near_like q x c.cut.result c.args.value.quotient c.args.value.scale c.args.value.cut a b c.quotient-quotient.ensures.value c.scale-scale.ensures c.cut.ensures near in
    let s = near_split 8388608 q x c.cut.result a b at (at + 256 - x - 1) t.kept t.half t.more (lit< tt) bp n c.of-tail.ensures p.2 (omega (arith, p.0)) p.1 in
    (s.0, s.1, s.2 ∙ sym c.rest.ensures)
