use Rattle.std.proofs.Common.{◌≡◌, None, drop}
use Rattle.ticket_order.proofs.Ends.{ends_after}
use Rattle.ticket_order.proofs.tickets.ends_of.Given as goal

abbrev pub invariant-loop-number : goal.invariant-loop-number
invariant-loop-number l = ends_after l.flights l.ends (drop l.number-index l.numbers) ≡ ends_after l.flights None l.numbers
