use Rattle.std.proofs.Common.{◌≡◌, length, take}
use Rattle.ticket_order.specs.Tickets.{labels}
use Rattle.ticket_order.proofs.roles.labels_of.Given as goal

abbrev pub invariant-loop-component : goal.invariant-loop-component
invariant-loop-component l = (l.labels ≡ labels (take l.component-index l.components)) × (length l.labels ≡ l.component-index)
