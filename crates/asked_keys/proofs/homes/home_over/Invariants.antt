use Rattle.std.proofs.Common.{◌≡◌, ◌≤◌, ◌+◌, ◌*◌, List, drop, length}
use Rattle.fare_component.specs.Homes.{weighed}
use Rattle.fare_law.specs.declared.limits.TheConstants.{MOST_FLIGHTS_OF_A_COMPONENT}
use Rattle.fare_law.specs.declared.sheets.Leg.{Leg}
use Rattle.fare_law.specs.Offers.{flights_of}
use Rattle.fare_law.specs.Parts.{Numbers}
use Rattle.asked_keys.proofs.homes.home_over.Given as goal

abbrev pub invariant-loop-number : goal.invariant-loop-number
invariant-loop-number l = record {
  sum : (legs : List Leg) → Numbers l.book l.number-items (flights_of legs) → l.home + weighed l.times (drop l.number-index legs) ≡ weighed 1 legs;
  times : l.times ≡ l.number-index + 1;
  low : l.home ≤ l.number-index * 140737488355328;
  numbers : l.number-items ≡ l.path.flights;
  few : length l.number-items ≤ MOST_FLIGHTS_OF_A_COMPONENT;
}
