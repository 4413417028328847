use Rattle.std.proofs.Common.{◌≡◌, ◌≤◌, length, drop}
use Rattle.ticket_order.specs.declared.numbering.TheConstants.{LABELS}
use Rattle.ticket_order.proofs.ReadLabels.{Read}
use Rattle.ticket_order.proofs.numbering.read_labels.Given as goal

abbrev pub invariant-loop-m : goal.invariant-loop-m
invariant-loop-m l = record {
  few : l.count ≤ l.m-index;
  each : length l.labels ≡ l.m-index;
  long : length l.opened ≡ LABELS;
  reads : Read l.moves l.labels (drop l.m-index l.moves) l.count l.opened;
}
