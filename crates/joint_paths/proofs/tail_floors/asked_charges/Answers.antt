use Rattle.std.proofs.Common.{◌++◌, [], append-nil, get_or, length, ap, sym, subst, ◌∙◌, arith}
use Rattle.fare_law.specs.Parts.{Numbers}
use Rattle.joint_paths.specs.declared.tail_classes.JoinTail.{JoinTail}
use Rattle.joint_paths.specs.Tails.{IsJoinTail}
use Rattle.joint_paths.specs.Joins.{TailSays}
use Rattle.joint_paths.proofs.JoinSteps.{rule_says, tail_said}
use Rattle.law_lemmas.proofs.EachOne.{each_at}
use Rattle.law_lemmas.proofs.Lists.{got_is}
use Rattle.joint_paths.proofs.tail_floors.asked_charges.Goals as goal

abbrev no_tail : JoinTail
no_tail = record { number = 0; first = 0; count = 0; classes = 0; mark = 0 }

pub numbers_of-numbers-requires : goal.numbers_of-numbers-requires
numbers_of-numbers-requires c =
    let j = c.args.joint.now in
    let k = j.bucket.now in
    each_at (IsJoinTail k.case.now.book.now k.case.now.request.now k.paths.now) j.tails.now c.args.at no_tail c.requires.joint.tails c.requires.tail

pub flights_of-flights-requires-clause-few : goal.flights_of-flights-requires-clause-few
flights_of-flights-requires-clause-few c =
    let j = c.args.joint.now in
    let k = j.bucket.now in
    let is = each_at (IsJoinTail k.case.now.book.now k.case.now.request.now k.paths.now) j.tails.now c.args.at no_tail c.requires.joint.tails c.requires.tail in
    let few = is.short.few in
    let same = ap length (c.numbers_of-numbers.ensures is.path is.stands) in
    omega (arith, few, same)

pub flights_of-flights-requires-clause-front : goal.flights_of-flights-requires-clause-front
flights_of-flights-requires-clause-front c =
    let j = c.args.joint.now in
    let k = j.bucket.now in
    let is = each_at (IsJoinTail k.case.now.book.now k.case.now.request.now k.paths.now) j.tails.now c.args.at no_tail c.requires.joint.tails c.requires.tail in
    (is.short.flights, subst (λ ns. Numbers k.case.now.book.now ns is.short.flights) (sym (c.numbers_of-numbers.ensures is.path is.stands)) is.short.numbers)

pub flights_of-flights-requires-clause-back : goal.flights_of-flights-requires-clause-back
flights_of-flights-requires-clause-back c = ([], tt)

pub returns-clause-says : goal.returns-clause-says
returns-clause-says c = λ t e.
    let j = c.args.joint.now in
    let k = j.bucket.now in
    let s = c.args.sought.now in
    let b = k.case.now.book.now in
    let is = each_at (IsJoinTail b k.case.now.request.now k.paths.now) j.tails.now c.args.at no_tail c.requires.joint.tails c.requires.tail in
    let ns = c.numbers_of-numbers.result.now in
    let fs = c.as_slice.result.now in
    let m = subst (λ xs. Numbers b xs fs) (append-nil ns ∙ c.numbers_of-numbers.ensures is.path is.stands) (subst (Numbers b (ns ++ [])) (sym c.as_slice.ensures.items) c.flights_of-flights.ensures.numbers) in
    let said = c.tail_charges.ensures in
    subst (λ u. TailSays j s u c.tail_charges.result) (got_is j.tails.now c.args.at no_tail t e)
    (tail_said j s (get_or j.tails.now c.args.at no_tail) is.path is.stands fs m c.tail_charges.result (rule_says s.rule.now fs c.tail_charges.result said.some said.none said.low))
