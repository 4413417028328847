use Rattle.std.proofs.Common.{◌≢◌, ◌<◌, length, get_or, refl, sym, ap, subst}
use Rattle.fare_law.specs.declared.names.Place.{Place}
use Rattle.fare_law.specs.Lists.{Each}
use Rattle.flight_paths.specs.Ways.{arrivals_of}
use Rattle.flight_paths.proofs.Places.{arrivals_all, no_flight, numbers_known}
use Rattle.joint_paths.proofs.CallFacts.{arrival, arrivals_more, arrives_at}
use Rattle.law_lemmas.proofs.EachOne.{each_in}
use Rattle.law_lemmas.proofs.Tests.{true_false}
use Rattle.joint_paths.proofs.buckets.Bucket.calls_at_one.Goals as goal

pub bounds-all-number : goal.bounds-all-number
bounds-all-number c =
    let ns = c.args.numbers.now in
    let i = c.loop-number.number-index in
    subst (λ xs. get_or ns i 0 < length xs) (sym c.flights-all.ensures.flights) (numbers_known c.args.self.now.case.now.book.now.timetable.flights ns c.requires.numbers.0 i 0 c.requires.numbers.1 c.loop-number-test.true)

pub loop-number-preserved : goal.loop-number-preserved
loop-number-preserved c = λ path got fs gs m n.
    let b = c.args.self.now.case.now.book.now in
    let ns = c.args.numbers.now in
    let i = c.loop-number.number-index in
    let there = ap (λ xs. (get_or xs (get_or ns i 0) no_flight).to) c.flights-all.ensures.flights in
    arrivals_more b ns fs m i c.loop-number-test.true (λ p. Each (λ q. p ≢ q) (arrivals_of gs)) (c.loop-number.invariant path got fs gs m n) (subst (λ (p : Place). Each (λ q. p ≢ q) (arrivals_of gs)) there ((c.calls_at.ensures path got gs n).0 c.if-calls_at.false))

pub returns-then-calls_at : goal.returns-then-calls_at
returns-then-calls_at c = λ path got fs gs m n.
    let b = c.args.self.now.case.now.book.now in
    let ns = c.args.numbers.now in
    let i = c.loop-number.number-index in
    let there = ap (λ xs. (get_or xs (get_or ns i 0) no_flight).to) c.flights-all.ensures.flights in
    let own = λ (each : Each (λ p. Each (λ q. p ≢ q) (arrivals_of gs)) (arrivals_of fs)). subst (λ (p : Place). Each (λ q. p ≢ q) (arrivals_of gs)) (sym there) (each_in (λ p. Each (λ q. p ≢ q) (arrivals_of gs)) (arrivals_of fs) (arrival b ns fs m i c.loop-number-test.true) each (arrives_at b ns fs m i c.loop-number-test.true)) in
    (λ e. absurd (true_false refl e), λ each. absurd (true_false c.if-calls_at.true ((c.calls_at.ensures path got gs n).1 (own each))))

pub returns : goal.returns
returns c = λ path got fs gs m n.
    let b = c.args.self.now.case.now.book.now in
    let ns = c.args.numbers.now in
    (λ e. subst (Each (λ p. Each (λ q. p ≢ q) (arrivals_of gs))) (arrivals_all b.timetable.flights ns fs c.loop-number.number-index m c.loop-number-test.false) (c.loop-number.invariant path got fs gs m n), λ each. refl)
