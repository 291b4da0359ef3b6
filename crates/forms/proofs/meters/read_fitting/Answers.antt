-- No line that names an engine and a rule is refused.
use Rattle.forms.proofs.Texts.{solid_engine}
use Rattle.forms.proofs.meters.read_fitting.Goals as goal
use Rattle.forms.specs.Setups.{engine, rule}
use Rattle.engine_choice.specs.declared.EngineName.{EngineName}
use Rattle.rounding.specs.declared.rules.AnyRule.{AnyRule}
use Rattle.lex.proofs.Cuts.{no_first, no_split}

abbrev Any : EngineName → Type 0
Any _ = Unit {0}

abbrev Every : AnyRule → Type 0
Every _ = Unit {0}

pub returns-in_err-engine : goal.returns-in_err-engine
returns-in_err-engine c =
    rw c.from_residual.ensures (
    λ p good e. no_split engine rule Any Every (λ a _. solid_engine a) c.args.text.now c.in_err-engine.ensures p.0 p.1 tt e
    )

pub returns-in_err-read_engine : goal.returns-in_err-read_engine
returns-in_err-read_engine c =
    rw c.from_residual-in_err-read_engine.ensures (
    λ p good e.
    no_first engine rule Any Every (λ a _. solid_engine a) c.args.text.now c.in_ok-engine.engine.now c.in_ok-engine.rule.now c.in_ok-engine.ensures.0 c.in_ok-engine.ensures.1 c.in_err-read_engine.ensures p.0 p.1 tt e
    )
