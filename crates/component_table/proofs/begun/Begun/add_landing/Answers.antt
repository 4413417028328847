use Rattle.std.proofs.Common.{subst, sym, inr}
use Rattle.component_table.specs.Begun.{key_to}
use Rattle.component_table.proofs.HeadsAdded.{lacks_empty, landing_none, landing_one}
use Rattle.fare_ends.specs.Ends.{IsFareEnd}
use Rattle.fare_ends.specs.NumberedFlights.{EndsWith}
use Rattle.law_lemmas.proofs.Lists.{prefix_self}
use Rattle.fare_ends.specs.Legs.{HasLegs}
use Rattle.component_table.proofs.begun.Begun.add_landing.Goals as goal

pub returns-in_err-end-clause-stays : goal.returns-in_err-end-clause-stays
returns-in_err-end-clause-stays c = record { fares = c.find.ensures.grows; outlines = prefix_self c.args.known.now.outlines.of.items }

pub returns-then-is_empty-clause-stays : goal.returns-then-is_empty-clause-stays
returns-then-is_empty-clause-stays c = record { fares = c.find.ensures.grows; outlines = prefix_self c.args.known.now.outlines.of.items }

pub returns-in_err-after-clause-stays : goal.returns-in_err-after-clause-stays
returns-in_err-after-clause-stays c = record { fares = c.find.ensures.grows; outlines = prefix_self c.args.known.now.outlines.of.items }

pub returns-in_err-push-clause-stays : goal.returns-in_err-push-clause-stays
returns-in_err-push-clause-stays c = record { fares = c.find.ensures.grows; outlines = prefix_self c.args.known.now.outlines.of.items }

pub returns-clause-stays : goal.returns-clause-stays
returns-clause-stays c = record { fares = c.find.ensures.grows; outlines = prefix_self c.args.known.now.outlines.of.items }

pub returns-then-is_empty-clause-added : goal.returns-then-is_empty-clause-added
returns-then-is_empty-clause-added c =
    let o = c.args.origin.now in
    let p = c.args.path.now in
    let last = c.in-Some.last.now in
    let ends = subst (λ ns. EndsWith o.case.now.book.now ns last) c.as_slice.ensures.items c.in-Some.ensures.some.1 in
    landing_none o c.find.new.self p c.args.self.now.landings.items (inr (lacks_empty o c.find.new.self p.path.now last c.in_ok-end.end ends c.in_ok-end.ensures.end (c.is_empty.ensures.0 c.if-is_empty.true)))

pub returns-clause-added : goal.returns-clause-added
returns-clause-added c =
    let o = c.args.origin.now in
    let p = c.args.path.now in
    let last = c.in-Some.last.now in
    let ends = subst (λ ns. EndsWith o.case.now.book.now ns last) c.as_slice.ensures.items c.in-Some.ensures.some.1 in
    let l = c.landing_of.result in
    let of = c.landing_of.ensures in
    landing_one o c.find.new.self p c.args.self.now.landings.items c.push.new.self.items last l c.requires.head.0 c.requires.head.1
    (λ fs n. subst (HasLegs o.case.now.book.now o.case.now.request.now fs) (sym of.classes) (c.requires.classes fs n)) ends
    (subst (IsFareEnd o.case.now.book.now (key_to o last.to) c.find.new.self) (sym of.end) c.in_ok-end.ensures.end) of.path of.place of.last c.in_ok-push.ensures.items
