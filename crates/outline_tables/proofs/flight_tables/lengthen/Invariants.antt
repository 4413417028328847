use Rattle.std.proofs.Common.{◌+◌, ◌-◌, length}
use Rattle.outline_tables.specs.FlightTables.{KeepsPlaces}
use Rattle.outline_tables.proofs.flight_tables.lengthen.Given as goal

abbrev pub invariant-loop-places : goal.invariant-loop-places
invariant-loop-places l = KeepsPlaces l.initial.places.items l.places.items

abbrev pub decreases-loop-places : goal.decreases-loop-places
decreases-loop-places l = l.flight + 1 - length l.places.items
