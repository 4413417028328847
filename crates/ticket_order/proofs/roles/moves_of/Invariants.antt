use Rattle.std.proofs.Common.{◌≡◌, ◌++◌, length, take, drop}
use Rattle.fare_law.specs.Moves.{moves_of, moves_after}
use Rattle.ticket_order.specs.Tickets.{labels}
use Rattle.ticket_order.proofs.roles.moves_of.Given as goal

abbrev pub invariant-loop-i : goal.invariant-loop-i
invariant-loop-i l = (l.moves ++ moves_after (take l.i (labels l.components)) (drop l.i l.components) ≡ moves_of l.ticket) × (length l.moves ≡ l.i)
