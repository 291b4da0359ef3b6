use Rattle.std.proofs.Common.{rules}
use Rattle.c_interface.proofs.Restoring.{new_stands}
use Rattle.c_interface.proofs.polls.addressed.Goals as goal

pub returns : goal.returns
returns c =
    let valid = c.in_ok-try_from.field-0.valid in
    let stands = new_stands c.in_ok-try_from.field-0.number c.args.engine c.args.rule c.in_ok-engine_numbered.field-0 c.in_ok-rule_numbered.field-0 c.in_ok-engine_numbered.ensures c.in_ok-rule_numbered.ensures valid.0 valid.1 in
    search rules
