use Rattle.std.proofs.Common.{◌≢◌, take}
use Rattle.fare_law.specs.Lists.{Each}
use Rattle.ticket_whole.proofs.journey.count_to.Given as goal

abbrev pub invariant-loop-at : goal.invariant-loop-at
invariant-loop-at l = Each (λ f. f.to ≢ l.place) (take l.at l.flights)
