use Rattle.std.proofs.Common.{◌-◌, ◌*◌, ◌^◌, arith}
use Rattle.cubic.proofs.Newton.{step_error}
use Rattle.cubic.proofs.refinement.step.Goals as goal

pub returns : goal.returns
returns c =
    step_error c.args.divisor c.args.found (2 ^ 56 - c.args.found * c.args.divisor) c.requires.0 (omega arith)
