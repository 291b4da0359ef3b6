-- An encoding in a group.
use Rattle.std.proofs.Common.{◌^◌, ◌<◌}
use Rattle.forms.proofs.calculations.read_encoded.Goals as goal
use Rattle.lex.proofs.Cuts.{reads_group}
use Rattle.lex.specs.Numbers.{hex}

pub returns : goal.returns
returns c =
    reads_group c.args.head.now c.in_ok-inside.field-0.now c.args.line.now hex (λ n. n < 2 ^ 32) c.hexadecimal.result c.in_ok-inside.ensures.1 c.hexadecimal.ensures
