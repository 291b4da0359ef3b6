-- Digit by digit, within eight digits of at most four bits.
use Rattle.std.proofs.Common.{ℕ, ◌+◌, List, length, get_or, refl, ap, ◌∙◌, arith}
use native.Mathlib.Nat.{pow-zero}
use Rattle.lex.proofs.Places.{digit_at, eight_digits, value_push, word_push}
use Rattle.lex.proofs.numbers.number.Goals as goal
use Rattle.lex.specs.Numbers.{digits}

pub loop-byte-init : goal.loop-byte-init
unfolding digits
loop-byte-init c = (rw pow-zero (omega arith), refl)

pub overflow_mul-value : goal.overflow_mul-value
overflow_mul-value c =
    let h = value_push c.args.base c.loop-byte.byte-index c.loop-byte.value 0 c.loop-byte.invariant.0 (omega arith) in
    omega (arith, eight_digits c.args.base (c.loop-byte.byte-index + 1) (omega arith) (omega arith))

pub returns-in_err-value : goal.returns-in_err-value
returns-in_err-value c =
    rw c.from_residual.ensures (
    λ n good e.
    let d = digit_at c.args.base (length c.args.word.now) n c.loop-byte.byte-index (omega arith) c.loop-byte-test.true in
    c.in_err-value.ensures d.0 d.1 (ap (λ (s : List ℕ). get_or s c.loop-byte.byte-index 0) e ∙ d.2)
    )

pub overflow_add-value : goal.overflow_add-value
overflow_add-value c =
    let h = value_push c.args.base c.loop-byte.byte-index c.loop-byte.value c.in_ok-value.field-0 c.loop-byte.invariant.0 c.in_ok-value.ensures.0 in
    omega (arith, eight_digits c.args.base (c.loop-byte.byte-index + 1) (omega arith) (omega arith))

pub loop-byte-preserved : goal.loop-byte-preserved
loop-byte-preserved c =
    let h = c.in_ok-value.ensures in (
      value_push c.args.base c.loop-byte.byte-index c.loop-byte.value c.in_ok-value.field-0 c.loop-byte.invariant.0 h.0,
      word_push c.args.base c.loop-byte.byte-index c.loop-byte.value c.in_ok-value.field-0 c.args.word.now c.loop-byte-test.true h.0 h.1 c.loop-byte.invariant.1,
    )
