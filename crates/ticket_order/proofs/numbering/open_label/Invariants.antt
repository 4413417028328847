use Rattle.std.proofs.Common.{◌≡◌, drop}
use Rattle.ticket_order.proofs.OpenLabels.{find_open}
use Rattle.ticket_order.proofs.numbering.open_label.Given as goal

abbrev pub invariant-loop-label : goal.invariant-loop-label
invariant-loop-label l = (find_open (drop l.label l.opened) l.left l.label ≡ find_open l.opened l.slot 0)
