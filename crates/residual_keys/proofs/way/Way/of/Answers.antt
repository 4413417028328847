use Rattle.std.proofs.Common.{sym, subst}
use Rattle.fare_law.specs.Parts.{Numbers}
use Rattle.residual_keys.proofs.Pathed.{path_numbers}
use Rattle.residual_keys.proofs.way.Way.of.Goals as goal

pub flights_of-flights-requires-clause-known : goal.flights_of-flights-requires-clause-known
flights_of-flights-requires-clause-known c =
    let fs = c.requires.1 in
    (fs, subst (λ ns. Numbers c.args.book.now ns fs) (sym c.as_slice.ensures.items) (path_numbers c.args.book.now c.args.request.now c.requires.0 c.args.path.now fs c.requires.2))

pub returns-clause-flights : goal.returns-clause-flights
returns-clause-flights c = λ r fs h. c.flights_of-flights.ensures.flights fs (subst (λ ns. Numbers c.args.book.now ns fs) (sym c.as_slice.ensures.items) (path_numbers c.args.book.now c.args.request.now r c.args.path.now fs h))
