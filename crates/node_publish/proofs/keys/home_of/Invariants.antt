use Rattle.std.proofs.Common.{◌≡◌, ◌≤◌, ◌+◌, ◌*◌, drop, length}
use Rattle.fare_law.specs.declared.limits.TheConstants.{MOST_FLIGHTS_OF_A_COMPONENT}
use Rattle.fare_component.specs.Homes.{weighed}
use Rattle.node_publish.proofs.keys.home_of.Given as goal

abbrev pub invariant-loop-leg : goal.invariant-loop-leg
invariant-loop-leg l = record {
  sum : l.home + weighed l.times (drop l.leg-index l.leg-items) ≡ weighed 1 l.leg-items;
  times : l.times ≡ l.leg-index + 1;
  low : l.home ≤ l.leg-index * 140737488355328;
  legs : l.leg-items ≡ l.key.legs;
  few : length l.leg-items ≤ MOST_FLIGHTS_OF_A_COMPONENT;
}
