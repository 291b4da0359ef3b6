use Rattle.std.proofs.Common.{rules}
use Rattle.c_interface.proofs.Restoring.{none_stands}
use Rattle.c_interface.proofs.polls.wozkerrim_meter_new.Goals as goal

pub returns-in-Err-clause-stands : goal.returns-in-Err-clause-stands
returns-in-Err-clause-stands c = let n = none_stands in search rules
