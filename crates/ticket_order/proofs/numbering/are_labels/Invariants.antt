use Rattle.std.proofs.Common.{◌↔◌, []}
use Rattle.ticket_order.specs.Tickets.{AreLabels}
use Rattle.ticket_order.proofs.ReadLabels.{RightFrom}
use Rattle.ticket_order.proofs.numbering.are_labels.Given as goal

abbrev pub invariant-loop-i : goal.invariant-loop-i
invariant-loop-i l = RightFrom l.i l.labels l.moves ↔ AreLabels [] l.labels l.moves
