-- Unpadded digits are decimals, and decimals are unpadded digits.
use Rattle.std.proofs.Common.{arith}
use Rattle.lex.proofs.Decimals.{decimal_of, word_of}
use Rattle.lex.proofs.numbers.decimal.Goals as goal
use Rattle.lex.proofs.numbers.decimal.Goals.{then-word-gt3-via-then-word-gt3, then-word-gt3-via-else-word-gt3+then-not-unpadded}
use Rattle.std.proofs.lemmas.Bool.Decides.{not_from_Decides}

pub returns-then-word-gt3 : goal.returns-then-word-gt3
returns-then-word-gt3 c =
    λ n good e.
    elim c.then-word-gt3.branch [
      | then-word-gt3-via-then-word-gt3 w ↦ omega (arith, (word_of _ n good e).short)
      | then-word-gt3-via-else-word-gt3+then-not-unpadded w ↦ not_from_Decides w.unpadded.result w.unpadded.ensures w.if-not-unpadded.true (word_of _ n good e).bare
    ]

pub returns-in_err-number : goal.returns-in_err-number
returns-in_err-number c =
    rw c.from_residual.ensures (λ n good e. c.in_err-number.ensures n (word_of _ n good e).below (word_of _ n good e).spelt)

pub returns : goal.returns
returns c =
    let h = c.in_ok-number.ensures in
    decimal_of c.args.word.now c.in_ok-number.field-0 c.if-word-gt3.false (c.unpadded.ensures.0 c.if-not-unpadded.false) h.1 h.0
