use Rattle.outline_tables.proofs.flight_tables.lengthen.Goals as goal
use Rattle.std.proofs.Common.{subst, sym}
use Rattle.outline_tables.specs.FlightTables.{KeepsPlaces}
use Rattle.outline_tables.proofs.TableFacts.{place_added, places_on}

pub loop-places-preserved : goal.loop-places-preserved
loop-places-preserved c =
    let old = c.loop-places.places.items in
    places_on c.args.places.now.items old c.push.new.self.items c.loop-places.invariant (subst (KeepsPlaces old) (sym c.in_ok-push.ensures.items) (place_added old))
