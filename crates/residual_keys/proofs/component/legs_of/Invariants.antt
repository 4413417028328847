use Rattle.std.proofs.Common.{◌≡◌, take}
use Rattle.fare_law.specs.Lists.{Matched}
use Rattle.fare_law.specs.Offers.{flights_of}
use Rattle.residual_keys.specs.AskedKeys.{IsLeg}
use Rattle.residual_keys.proofs.component.legs_of.Given as goal

abbrev pub invariant-loop-flight : goal.invariant-loop-flight
invariant-loop-flight l = Matched (IsLeg l.book l.party) (take l.flight-index l.flights) l.legs × (flights_of l.legs ≡ take l.flight-index l.flights)
