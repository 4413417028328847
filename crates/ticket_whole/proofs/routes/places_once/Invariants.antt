use Rattle.std.proofs.Common.{◌↔◌, drop}
use Rattle.fare_law.specs.Journey.{calls}
use Rattle.fare_law.specs.Lists.{AllDifferent}
use Rattle.ticket_whole.proofs.routes.places_once.Given as goal

abbrev pub invariant-loop-at : goal.invariant-loop-at
invariant-loop-at l = AllDifferent (calls l.fn.origin l.flights) ↔ AllDifferent (calls l.place (drop l.at l.flights))
