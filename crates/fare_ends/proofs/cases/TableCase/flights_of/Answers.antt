use Rattle.std.proofs.Common.{length, length-append, ap, arith}
use Rattle.fare_ends.proofs.Collected.{numbers_long}
use Rattle.fare_ends.proofs.FlightFacts.{gathered}
use Rattle.fare_ends.proofs.cases.TableCase.flights_of.Goals as goal

pub add_flights-requires-2-clause-few : goal.add_flights-requires-2-clause-few
add_flights-requires-2-clause-few c =
    let a = c.add_flights.ensures.adds in
    let whole = ap length a.joined in
    let sums = length-append c.new-flights.result a.more in
    let long = numbers_long c.args.self.now.book.now c.args.front.now a.more a.are in
    let none = ap length c.new-flights.ensures in
    omega (arith, whole, sums, long, none, c.requires.few)

pub returns-clause-numbers : goal.returns-clause-numbers
returns-clause-numbers c = gathered c.args.self.now.book.now c.args.front.now c.args.back.now c.new-flights.result c.add_flights.new.flights c.add_flights-2.new.flights c.new-flights.ensures c.add_flights.ensures.adds c.add_flights-2.ensures.adds
