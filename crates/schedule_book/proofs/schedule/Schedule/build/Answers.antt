use Rattle.std.proofs.Common.{length, sym, ap, subst, ◌∙◌, arith}
use Rattle.std.specs.List.Sorted.{IsPermutation}
use Rattle.fare_law.specs.Flights.{AreFlights}
use Rattle.fare_law.specs.Limits.{IsPlaceRow}
use Rattle.fare_law.specs.Lists.{Each}
use Rattle.schedule_book.specs.Departures.{Indexes}
use Rattle.schedule_book.specs.Faults.{RowCause}
use Rattle.schedule_book.proofs.Limited.{flights_on_days, flights_within}
use Rattle.schedule_book.proofs.Building.{flights_are, has_cause, written, sorted_length}
use Rattle.schedule_book.proofs.schedule.Schedule.build.Goals as goal

pub returns-in-Err-clause-fault : goal.returns-in-Err-clause-fault
returns-in-Err-clause-fault c = has_cause c.args.places.now c.args.rows.now c.in_ok-places.ensures.differ c.in-Err.fault (subst (λ ps. RowCause ps c.args.rows.now c.in-Err.fault) c.in_ok-places.ensures.rows c.in-Err.ensures.fault)

pub of-requires-2-clause-limits : goal.of-requires-2-clause-limits
of-requires-2-clause-limits c =
    let rows = c.args.rows.now in
    let old = c.in-Ok.flights.items in
    let new = c.put_in_order.new.flights in
    let same = subst (λ xs. IsPermutation xs new) c.as_mut_slice.ensures.value c.put_in_order.ensures.same in
    let kept = c.as_slice.ensures.value ∙ written c.in-Ok.flights.len old new (omega (arith, c.in-Ok.flights.ok.0)) (sorted_length old new same) in
    flights_within rows c.as_slice.result.now c.requires.rows (subst (AreFlights rows) (sym kept) (flights_are rows old new c.in-Ok.ensures.expansion c.in_ok-put_in_order.ensures.order same))

pub returns-clause-flights : goal.returns-clause-flights
returns-clause-flights c =
    let old = c.in-Ok.flights.items in
    let new = c.put_in_order.new.flights in
    let same = subst (λ xs. IsPermutation xs new) c.as_mut_slice.ensures.value c.put_in_order.ensures.same in
    let kept = c.from_vec-flights.ensures ∙ written c.in-Ok.flights.len old new (omega (arith, c.in-Ok.flights.ok.0)) (sorted_length old new same) in
    subst (AreFlights c.args.rows.now) (sym kept) (flights_are c.args.rows.now old new c.in-Ok.ensures.expansion c.in_ok-put_in_order.ensures.order same)

pub invariant_of-result : goal.invariant_of-result
invariant_of-result c =
    let rows = c.args.rows.now in
    let old = c.in-Ok.flights.items in
    let new = c.put_in_order.new.flights in
    let same = subst (λ xs. IsPermutation xs new) c.as_mut_slice.ensures.value c.put_in_order.ensures.same in
    let kept = c.from_vec-flights.ensures ∙ written c.in-Ok.flights.len old new (omega (arith, c.in-Ok.flights.ok.0)) (sorted_length old new same) in
    let are = subst (AreFlights rows) (sym kept) (flights_are rows old new c.in-Ok.ensures.expansion c.in_ok-put_in_order.ensures.order same) in (
      are.in_order,
      omega (arith, c.in-Ok.ensures.few, sorted_length old new same, ap length kept),
      subst (λ fs. Indexes fs c.in_ok-departures.departures.keys.items c.in_ok-departures.departures.numbers.items) (c.as_slice.ensures.value ∙ sym c.from_vec-flights.ensures) c.in_ok-departures.ensures,
      flights_within rows c.from_vec-flights.result c.requires.rows are,
      flights_on_days rows c.from_vec-flights.result c.requires.rows are,
      subst (Each IsPlaceRow) (sym c.in_ok-places.ensures.rows) c.requires.places,
    )
