use Rattle.std.proofs.Common.{◌≡◌, true, take}
use Rattle.c_interface.specs.Held.{encodings, all_finite}
use Rattle.c_interface.proofs.Cells.{filled}
use Rattle.c_interface.proofs.restored.refill.Given as goal

abbrev pub invariant-loop-bits : goal.invariant-loop-bits
invariant-loop-bits l = record {
  finite : all_finite (encodings (take l.bits-index l.replies)) ≡ true;
  taken : l.meter.model ≡ filled l.initial.meter.model.address (encodings (take l.bits-index l.replies));
  engine : l.meter.engine ≡ l.initial.meter.engine;
  rule : l.meter.rule ≡ l.initial.meter.rule;
}
