use Rattle.std.proofs.Common.{sym, ◌∙◌}
use Rattle.fare_rules.proofs.StopPlaces.{stops_told}
use Rattle.fare_rules.proofs.connections.stops_only_at.Goals as goal

pub returns : goal.returns
returns c =
    let told = stops_told c.args.places.now c.args.flights.now in
    let tested = c.permits_each_stop.ensures in
    (λ t. told.0 (sym tested ∙ t), λ h. tested ∙ told.1 h)
