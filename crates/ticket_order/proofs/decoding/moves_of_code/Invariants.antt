use Rattle.std.proofs.Common.{◌-◌, length}
use Rattle.fare_law.specs.declared.limits.TheConstants.{MOST_COMPONENTS}
use Rattle.ticket_order.proofs.MovesRead.{MovesRead}
use Rattle.ticket_order.proofs.decoding.moves_of_code.Given as goal

abbrev pub invariant-loop-rest : goal.invariant-loop-rest
invariant-loop-rest l = MovesRead l.code l.moves l.rest

abbrev pub decreases-loop-rest : goal.decreases-loop-rest
decreases-loop-rest l = MOST_COMPONENTS - length l.moves
