use Rattle.std.proofs.Common.{◌≡◌, ◌≤◌, ◌*◌, ◌++◌, length, drop}
use Rattle.fare_law.specs.Limits.{IsFlight}
use Rattle.fare_law.specs.Lists.{Each}
use Rattle.fare_law.specs.declared.limits.TheConstants.{MOST_FLIGHTS_OF_A_COMPONENT}
use Rattle.ticket_whole.specs.Breaches.{flights_of}
use Rattle.ticket_whole.proofs.known.flights_of.Given as goal

abbrev pub invariant-loop-component : goal.invariant-loop-component
invariant-loop-component l = record {
  flights : l.found ++ flights_of l.book (drop l.component-index l.components) ≡ flights_of l.book l.components;
  limits : Each IsFlight l.found;
  few : length l.found ≤ MOST_FLIGHTS_OF_A_COMPONENT * l.component-index;
}
