use Rattle.std.proofs.Common.{◌≡◌, drop}
use Rattle.std.specs.List.{position_from}
use Rattle.fare_verdict.specs.Tickets.{names}
use Rattle.fare_verdict.proofs.tickets.place_of_name.Given as goal

abbrev pub invariant-loop-number : goal.invariant-loop-number
invariant-loop-number l = position_from (names l.name) l.number (drop l.number l.flights) ≡ position_from (names l.name) 0 l.flights
