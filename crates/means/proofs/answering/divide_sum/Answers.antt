use Rattle.std.proofs.Common.{ℕ, ◌*◌, ◌^◌, ◌<◌, ◌∙◌}
use Rattle.std.proofs.lemmas.Nat.{pow_pos, mul-le}
use Rattle.rounding.proofs.Truncations.{near_like}
use Rattle.places.specs.Asking.{Scales}
use Rattle.window.proofs.Facts.{in_range_from}
use Rattle.means.proofs.Sums.{sum_near}
use Rattle.means.proofs.answering.divide_sum.Goals as goal

pub returns : goal.returns
returns g c =
    let a = c.args.ask in
    let i = in_range_from a.question.divisor a.question.dividend a.question.normal a.question.band in
    let q : ℕ = c.whole_quotient-quotient.result in
    let e = rw (c.divisor.ensures.value, c.dividend.ensures.value) at c.whole_quotient-quotient.ensures.value in
    let v = c.unwrap-value.result in
    let told = rw c.unwrap-value.ensures at c.new.ensures in
    let near = λ (s : ℕ) (n : ℕ) (u : ℕ) (np : 0 < n) (sc : Scales 256 (s * 2 ^ 149) (n * 2 ^ u) a.question.divisor a.question.dividend a.scale a.more).
    near_like v.quotient v.scale v.cut q a.scale c.cut_off.result (s * 2 ^ 149) (n * 2 ^ u) told.0 told.1 told.2
    (sum_near s n u a.question.divisor a.question.dividend a.scale q a.more c.cut_off.result np i sc e c.cut_off.ensures) in
    record {
      answer =
          λ s n u np sc. (
            c.round.ensures.encoding (s * 2 ^ 149) (n * 2 ^ u) (mul-le 1 1 n (2 ^ u) np (pow_pos u)) (near s n u np sc),
            c.round.ensures.flags (s * 2 ^ 149) (n * 2 ^ u) (mul-le 1 1 n (2 ^ u) np (pow_pos u)) (near s n u np sc),
          );
      after = rw (c.divisor.ensures.value, c.dividend.ensures.value) at c.whole_quotient-quotient.ensures.after ∙ simp i;
    }
