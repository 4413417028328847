use Rattle.std.proofs.Common.{◌≡◌, ◌≢◌, [], length}
use Rattle.fare_verdict.specs.Tickets.{StopsBefore, ticket_with}
use Rattle.fare_verdict.proofs.tickets.read_ticket.Given as goal

abbrev pub invariant-loop-rest : goal.invariant-loop-rest
invariant-loop-rest l = (ticket_with l.book l.lines [] ≡ ticket_with l.book l.rest l.components) × (l.components ≢ [] → StopsBefore l.rest)

abbrev pub decreases-loop-rest : goal.decreases-loop-rest
decreases-loop-rest l = length l.rest
