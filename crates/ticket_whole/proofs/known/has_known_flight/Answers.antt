use Rattle.std.proofs.Common.{◌↔◌, ℕ, List, IsTrue, IsSome, slice_get, subst}
use Rattle.std.specs.List.{Any}
use Rattle.fare_law.specs.declared.flights.Flight.{Flight}
use Rattle.ticket_whole.proofs.KnownFlights.{known_told}
use Rattle.ticket_whole.proofs.known.has_known_flight.Goals as goal

pub returns : goal.returns
returns c =
    let by_flights = subst (λ (fs : List Flight). IsTrue c.has_numbered.result ↔ Any (λ n. IsSome (slice_get fs n)) c.as_slice.result.now) c.all_flights.ensures.flights c.has_numbered.ensures in
    let any = subst (λ (ns : List ℕ). IsTrue c.has_numbered.result ↔ Any (λ n. IsSome (slice_get c.args.book.now.timetable.flights n)) ns) c.as_slice.ensures.items by_flights in
    let told = known_told c.args.book.now c.args.component.now.flights in
    (λ t. told.0 (any.0 t), λ h. any.1 (told.1 h))
