use Rattle.std.proofs.Common.{◌↔◌, drop}
use Rattle.fare_law.specs.Lawful.{Numbered}
use Rattle.ticket_order.proofs.roles.is_numbered.Given as goal

abbrev pub invariant-loop-label : goal.invariant-loop-label
invariant-loop-label l = Numbered l.count (drop l.label-index l.labels) ↔ Numbered 0 l.labels
