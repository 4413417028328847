use Rattle.std.proofs.Common.{◌≡◌, [], All, length, ap, sym, subst, arith}
use Rattle.fare_law.specs.Limits.{IsFlight}
use Rattle.fare_law.specs.Lists.{OnFirst}
use Rattle.fare_law.specs.Parts.{Numbers}
use Rattle.joint_paths.specs.Heads.{HeadFlies}
use Rattle.joint_paths.proofs.RuledFacts.{all_of_each, flies_as, head_asked, head_known, head_many, head_of, head_short, says_free, says_of_head}
use Rattle.joint_paths.proofs.ruled_heads.charges_of.Goals as goal

pub returns-then-rule-clause-says : goal.returns-then-rule-clause-says
returns-then-rule-clause-says c = says_free c.args.bucket.now c.args.rule.now c.args.head.now (c.requires.rule.free c.if-rule.true)

pub numbers-requires : goal.numbers-requires
numbers-requires c = (head_of c.args.bucket.now c.requires.bucket c.args.head.now c.requires.head).is.few

pub flights_of-flights-requires-clause-few : goal.flights_of-flights-requires-clause-few
flights_of-flights-requires-clause-few c = let few = head_short c.args.bucket.now c.requires.bucket c.args.head.now c.requires.head c.numbers.result.now c.numbers.ensures in omega (arith, few)

pub flights_of-flights-requires-clause-front : goal.flights_of-flights-requires-clause-front
flights_of-flights-requires-clause-front c =
    let known = head_known c.args.bucket.now c.requires.bucket c.args.head.now c.requires.head in
    (known.0, subst (λ ns. Numbers c.args.bucket.now.case.now.book.now ns known.0) (sym c.numbers.ensures) known.1)

pub flights_of-flights-requires-clause-back : goal.flights_of-flights-requires-clause-back
flights_of-flights-requires-clause-back c = ([], tt)

pub charges-requires-clause-rule : goal.charges-requires-clause-rule
charges-requires-clause-rule c = c.requires.rule.limits

pub charges-requires-clause-free : goal.charges-requires-clause-free
charges-requires-clause-free c = c.requires.rule.free

pub charges-requires-clause-count : goal.charges-requires-clause-count
charges-requires-clause-count c =
    let many = head_many c.args.bucket.now c.requires.bucket c.args.head.now c.requires.head c.flights_of-flights.result (flies_as c.args.bucket.now.case.now.book.now c.args.head.now c.numbers.result.now c.flights_of-flights.result c.numbers.ensures c.flights_of-flights.ensures.numbers) in
    let same = ap length c.as_slice.ensures.items in
    (omega (arith, many.0, same), omega (arith, many.1, same))

pub charges-requires-clause-flights : goal.charges-requires-clause-flights
charges-requires-clause-flights c = subst (All IsFlight) (sym c.as_slice.ensures.items) (all_of_each IsFlight c.flights_of-flights.result c.flights_of-flights.ensures.limits)

pub charges-requires-clause-carrier : goal.charges-requires-clause-carrier
charges-requires-clause-carrier c = subst (OnFirst (λ f. f.carrier ≡ c.args.rule.now.carrier)) (sym c.as_slice.ensures.items) (head_asked c.args.bucket.now c.requires.bucket c.args.head.now c.requires.head c.args.rule.now c.requires.rule c.flights_of-flights.result (flies_as c.args.bucket.now.case.now.book.now c.args.head.now c.numbers.result.now c.flights_of-flights.result c.numbers.ensures c.flights_of-flights.ensures.numbers))

pub returns-clause-says : goal.returns-clause-says
returns-clause-says c =
    let fs = c.as_slice.result.now in
    says_of_head c.args.bucket.now c.args.rule.now c.args.head.now fs c.charges.result (subst (HeadFlies c.args.bucket.now.case.now.book.now c.args.head.now) (sym c.as_slice.ensures.items) (flies_as c.args.bucket.now.case.now.book.now c.args.head.now c.numbers.result.now c.flights_of-flights.result c.numbers.ensures c.flights_of-flights.ensures.numbers)) c.charges.ensures.some c.charges.ensures.none c.charges.ensures.low
