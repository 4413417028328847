use Rattle.std.proofs.Common.{◌≡◌, ◌++◌, length, ap, sym, subst, arith}
use Rattle.fare_groups.specs.Groups.{Permits, extra_of}
use Rattle.fare_law.specs.Parts.{Numbers}
use Rattle.joint_paths.specs.Tails.{IsJoinTail}
use Rattle.joint_paths.specs.Joins.{IsPair}
use Rattle.joint_paths.proofs.JoinSteps.{pair_asked, pair_free, pair_none, pair_some}
use Rattle.joint_paths.proofs.PairFacts.{pair_few}
use Rattle.joint_paths.proofs.RuledFacts.{head_known, head_of}
use Rattle.law_lemmas.proofs.EachOne.{each_in}
use Rattle.law_lemmas.proofs.Options.{if_some}
use Rattle.fare_ends.specs.Floors.{OpenPath}
use Rattle.joint_paths.proofs.joining.pair_charges.Goals as goal

pub returns-then-sought-clause-some : goal.returns-then-sought-clause-some
returns-then-sought-clause-some c = pair_free c.args.joint.now c.args.sought.now c.requires.joint c.requires.rule c.if-sought.true c.args.head.now c.requires.head c.args.tail.now

pub numbers_of-back-requires : goal.numbers_of-back-requires
numbers_of-back-requires c =
    let j = c.args.joint.now in
    let k = j.bucket.now in
    each_in (IsJoinTail k.case.now.book.now k.case.now.request.now k.paths.now) j.tails.now c.args.tail.now c.requires.joint.tails c.requires.tail

pub numbers-requires : goal.numbers-requires
numbers-requires c = (head_of c.args.joint.now.bucket.now c.requires.joint.bucket c.args.head.now c.requires.head).is.few

pub flights_of-flights-requires-clause-few : goal.flights_of-flights-requires-clause-few
flights_of-flights-requires-clause-few c =
    let j = c.args.joint.now in
    let k = j.bucket.now in
    let s = c.args.sought.now in
    let h = c.args.head.now in
    let t = c.args.tail.now in
    let b = k.case.now.book.now in
    let is = each_in (IsJoinTail b k.case.now.request.now k.paths.now) j.tails.now t c.requires.joint.tails c.requires.tail in
    let few = pair_few k c.requires.joint.bucket h c.requires.head t c.requires.follows is.path is.stands in
    let front = ap length c.numbers.ensures in
    let back = ap length (c.numbers_of-back.ensures is.path is.stands) in
    omega (arith, few, front, back)

pub flights_of-flights-requires-clause-front : goal.flights_of-flights-requires-clause-front
flights_of-flights-requires-clause-front c =
    let k = c.args.joint.now.bucket.now in
    let known = head_known k c.requires.joint.bucket c.args.head.now c.requires.head in
    (known.0, subst (λ ns. Numbers k.case.now.book.now ns known.0) (sym c.numbers.ensures) known.1)

pub flights_of-flights-requires-clause-back : goal.flights_of-flights-requires-clause-back
flights_of-flights-requires-clause-back c =
    let j = c.args.joint.now in
    let k = j.bucket.now in
    let s = c.args.sought.now in
    let h = c.args.head.now in
    let t = c.args.tail.now in
    let b = k.case.now.book.now in
    let is = each_in (IsJoinTail b k.case.now.request.now k.paths.now) j.tails.now t c.requires.joint.tails c.requires.tail in
    (is.short.flights, subst (λ ns. Numbers b ns is.short.flights) (sym (c.numbers_of-back.ensures is.path is.stands)) is.short.numbers)

pub charges-requires-clause-count : goal.charges-requires-clause-count
charges-requires-clause-count c =
    let j = c.args.joint.now in
    let k = j.bucket.now in
    let s = c.args.sought.now in
    let h = c.args.head.now in
    let t = c.args.tail.now in
    let b = k.case.now.book.now in
    let is = each_in (IsJoinTail b k.case.now.request.now k.paths.now) j.tails.now t c.requires.joint.tails c.requires.tail in
    let fs = c.as_slice.result.now in
    let ns = c.numbers.result.now in
    let ms = c.numbers_of-back.result.now in
    let asked = pair_asked k c.requires.joint.bucket s.rule.now c.requires.rule h c.requires.head t c.requires.follows is.path is.stands ns ms c.numbers.ensures (c.numbers_of-back.ensures is.path is.stands) fs (subst (Numbers b (ns ++ ms)) (sym c.as_slice.ensures.items) c.flights_of-flights.ensures.numbers) in
    (asked.some, asked.few)

pub charges-requires-clause-carrier : goal.charges-requires-clause-carrier
charges-requires-clause-carrier c =
    let j = c.args.joint.now in
    let k = j.bucket.now in
    let s = c.args.sought.now in
    let h = c.args.head.now in
    let t = c.args.tail.now in
    let b = k.case.now.book.now in
    let is = each_in (IsJoinTail b k.case.now.request.now k.paths.now) j.tails.now t c.requires.joint.tails c.requires.tail in
    let fs = c.as_slice.result.now in
    let ns = c.numbers.result.now in
    let ms = c.numbers_of-back.result.now in
    let asked = pair_asked k c.requires.joint.bucket s.rule.now c.requires.rule h c.requires.head t c.requires.follows is.path is.stands ns ms c.numbers.ensures (c.numbers_of-back.ensures is.path is.stands) fs (subst (Numbers b (ns ++ ms)) (sym c.as_slice.ensures.items) c.flights_of-flights.ensures.numbers) in
    asked.first

pub returns-clause-some : goal.returns-clause-some
returns-clause-some c =
    let j = c.args.joint.now in
    let k = j.bucket.now in
    let s = c.args.sought.now in
    let h = c.args.head.now in
    let t = c.args.tail.now in
    let b = k.case.now.book.now in
    let is = each_in (IsJoinTail b k.case.now.request.now k.paths.now) j.tails.now t c.requires.joint.tails c.requires.tail in
    let fs = c.as_slice.result.now in
    let ns = c.numbers.result.now in
    let ms = c.numbers_of-back.result.now in
    let asked = pair_asked k c.requires.joint.bucket s.rule.now c.requires.rule h c.requires.head t c.requires.follows is.path is.stands ns ms c.numbers.ensures (c.numbers_of-back.ensures is.path is.stands) fs (subst (Numbers b (ns ++ ms)) (sym c.as_slice.ensures.items) c.flights_of-flights.ensures.numbers) in
    if_some c.charges.result (λ charges. Permits s.rule.now.rule s.rule.now.carrier fs × (charges ≡ extra_of s.rule.now.rule fs)) (λ charges. (p : OpenPath) → IsPair k h t p → Permits s.rule.now.rule s.rule.now.carrier p.flights × (charges ≡ extra_of s.rule.now.rule p.flights))
    (pair_some j s h t fs asked.same) c.charges.ensures.some

pub returns-clause-none : goal.returns-clause-none
returns-clause-none c =
    let j = c.args.joint.now in
    let k = j.bucket.now in
    let s = c.args.sought.now in
    let h = c.args.head.now in
    let t = c.args.tail.now in
    let b = k.case.now.book.now in
    let is = each_in (IsJoinTail b k.case.now.request.now k.paths.now) j.tails.now t c.requires.joint.tails c.requires.tail in
    let fs = c.as_slice.result.now in
    let ns = c.numbers.result.now in
    let ms = c.numbers_of-back.result.now in
    let asked = pair_asked k c.requires.joint.bucket s.rule.now c.requires.rule h c.requires.head t c.requires.follows is.path is.stands ns ms c.numbers.ensures (c.numbers_of-back.ensures is.path is.stands) fs (subst (Numbers b (ns ++ ms)) (sym c.as_slice.ensures.items) c.flights_of-flights.ensures.numbers) in
    pair_none j s h t fs asked.same c.charges.result c.charges.ensures.none
