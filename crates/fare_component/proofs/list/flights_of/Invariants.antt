use Rattle.std.proofs.Common.{◌≡◌, take}
use Rattle.fare_law.specs.Offers.{flights_of}
use Rattle.fare_component.proofs.list.flights_of.Given as goal

abbrev pub invariant-loop-leg : goal.invariant-loop-leg
invariant-loop-leg l = l.flights ≡ flights_of (take l.leg-index l.legs)
