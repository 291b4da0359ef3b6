-- The text is cut at its first space, or has none.
use Rattle.lex.proofs.Cuts.{cut_found, no_pair, none_found}
use Rattle.lex.proofs.parts.split.Goals as goal
use Rattle.std.proofs.lemmas.List.{take_rest}

pub returns-in_err-space : goal.returns-in_err-space
returns-in_err-space c = rw c.from_residual.ensures (no_pair _ (none_found _ c.in_err-space.ensures))

pub returns : goal.returns
returns c = simp take_rest (cut_found c.args.text.now c.in_ok-space.space c.in_ok-space.ensures)
