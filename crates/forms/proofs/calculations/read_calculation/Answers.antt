-- No line that computes is refused.
use Rattle.std.proofs.Common.{rules, ◌≡◌, codes}
use Rattle.forms.proofs.Texts.{no_calculation}
use Rattle.forms.proofs.calculations.read_calculation.Goals as goal

pub returns-else-is-2 : goal.returns-else-is-2
returns-else-is-2 c =
    let mean : c.args.line.now ≡ codes "(mean)" → ⊥ = search rules in
    let meansq : c.args.line.now ≡ codes "(meansq)" → ⊥ = search rules in
    search (rules, no_calculation _ mean meansq)
