-- No line of two encodings is refused.
use Rattle.std.proofs.Common.{ℕ, ◌^◌, ◌<◌, codes, sym, ◌∙◌}
use Rattle.forms.proofs.Texts.{solid_hex}
use Rattle.forms.proofs.calculations.read_divided.Goals as goal
use Rattle.lex.proofs.Cuts.{group_same, no_first, no_second, no_split}
use Rattle.lex.specs.Numbers.{hex}

abbrev Sized : ℕ → Type 0
Sized n = n < 2 ^ 32

pub returns-in_err-dividend : goal.returns-in_err-dividend
returns-in_err-dividend c =
    rw c.from_residual-in_err-dividend.ensures (
    λ p good e.
    no_split hex hex Sized Sized (λ a _. solid_hex a) c.in_ok-inside.field-0.now c.in_err-dividend.ensures p.0 p.1 good.0 (
    group_same (codes "(div ") _ _ (sym c.in_ok-inside.ensures.1 ∙ e)
    )
    )

pub returns-in_err-hexadecimal : goal.returns-in_err-hexadecimal
returns-in_err-hexadecimal c =
    rw c.from_residual-in_err-hexadecimal.ensures (
    λ p good e.
    no_first hex hex Sized Sized (λ a _. solid_hex a) c.in_ok-inside.field-0.now c.in_ok-dividend.dividend.now c.in_ok-dividend.divisor.now c.in_ok-dividend.ensures.0 c.in_ok-dividend.ensures.1 c.in_err-hexadecimal.ensures p.0 p.1 good.0 (
    group_same (codes "(div ") _ _ (sym c.in_ok-inside.ensures.1 ∙ e)
    )
    )

pub returns-in_err-hexadecimal-2 : goal.returns-in_err-hexadecimal-2
returns-in_err-hexadecimal-2 c =
    rw c.from_residual-in_err-hexadecimal-2.ensures (
    λ p good e.
    no_second hex hex Sized Sized (λ a _. solid_hex a) c.in_ok-inside.field-0.now c.in_ok-dividend.dividend.now c.in_ok-dividend.divisor.now c.in_ok-dividend.ensures.0 c.in_ok-dividend.ensures.1 c.in_err-hexadecimal-2.ensures p.0 p.1 good.0 good.1 (
    group_same (codes "(div ") _ _ (sym c.in_ok-inside.ensures.1 ∙ e)
    )
    )
