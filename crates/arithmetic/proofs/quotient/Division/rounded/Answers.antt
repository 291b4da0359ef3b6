use Rattle.std.proofs.Common.{ℕ, ◌*◌, ◌^◌, Bool, not, eqb, sym, refl, ap, ◌∙◌, arith}
use Rattle.std.proofs.lemmas.Option.{MatchOption-at_some}
use Rattle.rounding.specs.Format.{binary32, size, joined, value, significand}
use Rattle.rounding.specs.Truncation.{Near}
use Rattle.rounding.specs.Rounding.{Outcome, chosen, settled, raised}
use Rattle.rounding.proofs.Truncations.{near_like}
use Rattle.arithmetic.specs.Defined.{aligned, asked_divisor, asked_dividend}
use Rattle.arithmetic.proofs.Quotients.{asks_tests, quotient_rounds, divisor_pos, in_range_of, asked_log, pair_near, dividend_same}
use Rattle.arithmetic.proofs.quotient.Division.rounded.Goals as goal

pub returns : goal.returns
returns g c =
    let x = c.args.self.dividend.bits in
    let y = c.args.self.divisor.bits in
    let m = g.R.Rule.meaning c.args.rule.now in
    let s = asks_tests x y c.requires in
    let e = quotient_rounds m x y _ s.0 s.1 in
    let a = c.ask_for-scale.result in
    let d : ℕ = c.divisor-divisor.result in
    let n : ℕ = c.dividend-dividend.result in
    let de = c.divisor-divisor.ensures.value ∙ c.ask_for-scale.ensures.divisor in
    let ne = c.dividend-dividend.ensures.value ∙ c.ask_for-scale.ensures.dividend in
    let r = in_range_of d n c.divisor-divisor.ensures.normal (omega arith, omega arith) in
    let o = c.scale_up.result in
    let u = c.scale_up-2.result in
    let vx : ℕ = value 8388608 (size binary32 x) in
    let vy : ℕ = value 8388608 (size binary32 y) in
    let q : ℕ = c.whole_quotient-quotient.result in
    let t = c.unwrap-value.result in
    let told = MatchOption-at_some _ _ t c.unwrap-value.ensures c.new.ensures in
    let near : Near t.quotient t.scale t.cut (vx * 2 ^ 149) vy =
    near_like t.quotient t.scale t.cut q a.scale (not (eqb (q * d) n)) (vx * 2 ^ 149) vy told.0 told.1 told.2
    (pair_near vx vy o.bits u.bits o.power u.power d n q a.scale (not (eqb (q * d) n)) r c.scale_up.ensures.value c.scale_up-2.ensures.value de ne c.ask_for-scale.ensures.scale c.whole_quotient-quotient.ensures.value refl) in
    let bp = divisor_pos y s.1 in
    let sign = c.is_negative.ensures in
    record {
      answer = (
        c.round.ensures.encoding (vx * 2 ^ 149) vy bp near ∙ ap (λ (b : Bool). joined binary32 b (settled m b 2139095040 (chosen m b 8388608 (vx * 2 ^ 149) vy))) sign ∙ sym (ap (λ (z : Outcome). z.bits) e),
        c.round.ensures.flags (vx * 2 ^ 149) vy bp near ∙ ap (λ (b : Bool). raised m b 8388608 2139095040 (vx * 2 ^ 149) vy) sign ∙ sym (ap (λ (z : Outcome). z.flags) e),
      );
      after =
          c.whole_quotient-quotient.ensures.after
          ∙ asked_log (g.E.Engine.logged c.args.engine.now) d n (asked_divisor binary32 y) (asked_dividend binary32 x y) r
          (de ∙ c.scale_up-2.ensures.bits)
          (ne ∙ dividend_same o.bits u.bits (aligned (significand 8388608 (size binary32 x))) (aligned (significand 8388608 (size binary32 y))) c.scale_up.ensures.bits c.scale_up-2.ensures.bits);
    }
