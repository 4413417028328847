use Rattle.std.proofs.Common.{◌≤◌, length, sym, subst}
use Rattle.fare_law.specs.Parts.{Numbers}
use Rattle.flight_paths.specs.Positions.{IsPath}
use Rattle.residual_keys.specs.Steps.{KeyOn}
use Rattle.residual_keys.proofs.StepTaken.{given_flights, live_on, no_fare, path_numbers, path_some}
use Rattle.residual_keys.proofs.stepping.step_over.Goals as goal

pub flights_of-flights-requires-clause-known : goal.flights_of-flights-requires-clause-known
flights_of-flights-requires-clause-known c =
    (c.requires.path.0, subst (λ ns. Numbers c.args.book.now ns c.requires.path.0) (sym c.as_slice.ensures.items) (path_numbers c.args.book.now c.args.request.now c.args.residual.now c.args.mv.now c.requires.path.0 c.args.after c.requires.path.1))

pub key_on-requires : goal.key_on-requires
key_on-requires c =
    let is = given_flights c.args.book.now c.args.request.now c.args.residual.now c.args.mv.now c.requires.path.0 c.args.after c.requires.path.1 c.as_slice.result.now c.flights_of-flights.result c.as_slice-flights.result.now c.as_slice.ensures.items c.flights_of-flights.ensures.flights c.as_slice-flights.ensures.items in
    subst (λ xs. 1 ≤ length xs) (sym is) (path_some c.args.book.now c.args.request.now c.args.residual.now c.args.mv.now c.requires.path.0 c.args.after c.requires.path.1)

pub returns-in-None-clause-none : goal.returns-in-None-clause-none
returns-in-None-clause-none c =
    let is = given_flights c.args.book.now c.args.request.now c.args.residual.now c.args.mv.now c.requires.path.0 c.args.after c.requires.path.1 c.as_slice.result.now c.flights_of-flights.result c.as_slice-flights.result.now c.as_slice.ensures.items c.flights_of-flights.ensures.flights c.as_slice-flights.ensures.items in
    no_fare c.args.book.now c.args.request.now c.args.residual.now c.args.mv.now c.requires.path.0 c.args.after c.requires.path.1 c.key_on.result (subst (λ xs. KeyOn c.args.mv.now xs c.key_on.result) is c.key_on.ensures) c.in-None.ensures

pub step_with-requires-clause-path : goal.step_with-requires-clause-path
step_with-requires-clause-path c =
    let is = given_flights c.args.book.now c.args.request.now c.args.residual.now c.args.mv.now c.requires.path.0 c.args.after c.requires.path.1 c.as_slice.result.now c.flights_of-flights.result c.as_slice-flights.result.now c.as_slice.ensures.items c.flights_of-flights.ensures.flights c.as_slice-flights.ensures.items in
    subst (λ xs. IsPath c.args.book.now c.args.request.now.slices c.args.residual.now.at c.args.mv.now.flights xs c.args.after) (sym is) c.requires.path.1

pub step_with-requires-clause-live : goal.step_with-requires-clause-live
step_with-requires-clause-live c =
    let row = c.in-Some.row.now in
    live_on c.args.book.now c.args.mv.now c.as_slice-flights.result.now c.key_on.result row c.key_on.ensures c.in-Some.ensures.0 c.in-Some.ensures.1 (c.limits.ensures.fares c.key_on.result row.fare c.in-Some.ensures.0).0

pub step_with-requires-clause-fare : goal.step_with-requires-clause-fare
step_with-requires-clause-fare c = (c.limits.ensures.fares c.key_on.result c.in-Some.row.now.fare c.in-Some.ensures.0).1

pub step_with-requires-clause-rule : goal.step_with-requires-clause-rule
step_with-requires-clause-rule c = c.limits.ensures.rules c.key_on.result.carrier c.in-Some.row.now.fare.rule c.in-Some.row.now.rule c.in-Some.ensures.1
