-- What is left between the head and the parenthesis.
use Rattle.std.proofs.Common.{[], ◌∷◌, ◌++◌, Some, None}
use Rattle.lex.proofs.Cuts.{within}
use Rattle.lex.proofs.parts.inside.Goals as goal
use Rattle.std.proofs.lemmas.Slice.Eq.{strip_prefix_is, strip_suffix_is}
use Rattle.std.proofs.lemmas.Bool.Decides.{Decides-eqb}

pub returns-in_err-strip_prefix : goal.returns-in_err-strip_prefix
returns-in_err-strip_prefix c =
    rw c.from_residual.ensures (
    λ x good e. strip_prefix_is Decides-eqb c.args.text.now c.args.head.now None c.in_err-strip_prefix.ensures.cases (x ++ 41 ∷ []) e
    )

pub returns : goal.returns
returns c =
    within c.args.text.now c.args.head.now c.in_ok-strip_prefix.field-0.now c.strip_suffix.result
    (strip_prefix_is Decides-eqb c.args.text.now c.args.head.now (Some c.in_ok-strip_prefix.field-0) c.in_ok-strip_prefix.ensures.cases)
    (strip_suffix_is Decides-eqb c.in_ok-strip_prefix.field-0.now (41 ∷ []) c.strip_suffix.result c.strip_suffix.ensures.cases)
