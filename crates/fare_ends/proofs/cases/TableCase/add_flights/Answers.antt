use Rattle.std.proofs.Common.{[], get_or, append-nil, length, length-append, take, ap, subst, sym, ◌∙◌, arith}
use Rattle.std.proofs.lemmas.List.{take_all}
use Rattle.fare_ends.proofs.Collected.{numbers_long}
use Rattle.fare_ends.proofs.FlightFacts.{added_next}
use Rattle.fare_law.specs.Limits.{IsFlight}
use Rattle.fare_law.specs.Lists.{Each}
use Rattle.fare_law.specs.Parts.{Numbers}
use Rattle.flight_paths.specs.Ways.{AreFlightsOf}
use Rattle.flight_paths.proofs.Places.{no_flight, numbers_known}
use Rattle.law_lemmas.proofs.EachOne.{each_at, each_more}
use Rattle.law_lemmas.proofs.Lists.{front_length}
use Rattle.fare_ends.proofs.cases.TableCase.add_flights.Goals as goal

pub bounds-all-number : goal.bounds-all-number
bounds-all-number c =
    let ns = c.args.numbers.now in
    let fs = c.requires.known.0 in
    numbers_known c.flights-all.result.now ns fs c.loop-number.number-index 0 (subst (λ xs. AreFlightsOf xs ns fs) (sym c.flights-all.ensures.flights) c.requires.known.1) c.loop-number-test.true

pub loop-number-init : goal.loop-number-init
loop-number-init c = record { adds = record { more = []; joined = sym (append-nil c.args.flights.now); are = tt }; limits = c.requires.limits }

pub push-requires : goal.push-requires
push-requires c =
    let i = c.loop-number.number-index in
    let a = c.loop-number.invariant.adds in
    let whole = ap length a.joined ∙ length-append c.args.flights.now a.more in
    let long = numbers_long c.args.self.now.book.now (take i c.args.numbers.now) a.more a.are in
    let short = front_length c.args.numbers.now i c.loop-number-test.true in
    omega (arith, whole, long, short, c.loop-number-test.true, c.requires.few)

pub loop-number-preserved : goal.loop-number-preserved
loop-number-preserved c =
    let b = c.args.self.now.book.now in
    let ns = c.args.numbers.now in
    let fs = c.requires.known.0 in
    let i = c.loop-number.number-index in
    let all = c.flights-all.result.now in
    let lt = c.loop-number-test.true in
    let within = numbers_known all ns fs i 0 (subst (λ xs. AreFlightsOf xs ns fs) (sym c.flights-all.ensures.flights) c.requires.known.1) lt in
    record {
      adds = added_next b all ns fs i c.args.flights.now c.loop-number.flights c.push.new.self no_flight c.flights-all.ensures.flights c.requires.known.1 lt c.loop-number.invariant.adds c.push.ensures;
      limits = subst (λ xs. Each IsFlight xs) (sym c.push.ensures) (each_more IsFlight c.loop-number.flights (get_or all (get_or ns i 0) no_flight) c.loop-number.invariant.limits (each_at IsFlight all (get_or ns i 0) no_flight c.flights-all.ensures.limits within));
    }

pub returns-clause-adds : goal.returns-clause-adds
returns-clause-adds c =
    let a = c.loop-number.invariant.adds in
    record { more = a.more; joined = a.joined; are = subst (λ l. Numbers c.args.self.now.book.now l a.more) (take_all c.loop-number.number-index c.args.numbers.now c.loop-number-test.false) a.are }
