-- No line that sets a meter up is refused.
use Rattle.std.proofs.Common.{ℕ, ◌<◌, codes, decimal, sym, ◌∙◌, arith}
use Rattle.forms.proofs.meters.read_setup.Goals as goal
use Rattle.forms.specs.Setups.{fitting}
use Rattle.engine_choice.specs.declared.EngineName.{EngineName}
use Rattle.rounding.specs.declared.rules.AnyRule.{AnyRule}
use Rattle.lex.proofs.Cuts.{group_same, no_first, no_second, no_split}
use Rattle.lex.proofs.Decimals.{solid_decimal}
use Rattle.lex.specs.Parts.{Solid}

abbrev Short : ℕ → Type 0
Short n = n < 1000

abbrev Any : EngineName × AnyRule → Type 0
Any _ = Unit {0}

solid : (n : ℕ) → Short n → Solid (decimal n)
solid n short = solid_decimal n (omega arith)

pub returns-in_err-address : goal.returns-in_err-address
returns-in_err-address c =
    rw c.from_residual-in_err-address.ensures (
    λ s good e.
    no_split decimal fitting Short Any solid c.in_ok-inside.field-0.now c.in_err-address.ensures s.address (s.engine, s.rule) good (
    group_same (codes "(meter ") _ _ (sym c.in_ok-inside.ensures.1 ∙ e)
    )
    )

pub returns-in_err-address-2 : goal.returns-in_err-address-2
returns-in_err-address-2 c =
    rw c.from_residual-in_err-address-2.ensures (
    λ s good e.
    no_first decimal fitting Short Any solid c.in_ok-inside.field-0.now c.in_ok-address.address.now c.in_ok-address.names.now c.in_ok-address.ensures.0 c.in_ok-address.ensures.1 c.in_err-address-2.ensures s.address (s.engine, s.rule) good (
    group_same (codes "(meter ") _ _ (sym c.in_ok-inside.ensures.1 ∙ e)
    )
    )

pub returns-in_err-engine : goal.returns-in_err-engine
returns-in_err-engine c =
    rw c.from_residual-in_err-engine.ensures (
    λ s good e.
    no_second decimal fitting Short Any solid c.in_ok-inside.field-0.now c.in_ok-address.address.now c.in_ok-address.names.now c.in_ok-address.ensures.0 c.in_ok-address.ensures.1 c.in_err-engine.ensures s.address (s.engine, s.rule) good tt (
    group_same (codes "(meter ") _ _ (sym c.in_ok-inside.ensures.1 ∙ e)
    )
    )
