use Rattle.std.proofs.Common.{◌≡◌, ◌≤◌, List, append-nil, length, slice_get, ap, subst, sym, ◌∙◌}
use Rattle.component_table.proofs.SoughtFacts.{flights_are, flights_few, flights_own, landing_at, read_landing, says_from}
use Rattle.fare_law.specs.declared.flights.Flight.{Flight}
use Rattle.fare_law.specs.Lists.{OnFirst}
use Rattle.fare_law.specs.Parts.{Numbers}
use Rattle.flight_paths.specs.declared.positions.Path.{Path}
use Rattle.flight_paths.proofs.Joining.{head_flights}
use Rattle.law_lemmas.proofs.Options.{some_one}
use Rattle.component_table.proofs.landed.asked_charges.Goals as goal

pub flights_of-flights-requires-clause-front : goal.flights_of-flights-requires-clause-front
flights_of-flights-requires-clause-front c =
    let o = c.args.origin.now in
    let k = c.args.class.now in
    let r = c.requires.sought.landings in
    let x = c.index-class-class.result in
    let h = (read_landing o r.0 k.paths.now k.landings.now c.args.at c.requires.place.0 _ x _ r.1 c.requires.place.1 c.index-class-class.is).1.head in
    (h.0, subst (λ ns. Numbers o.case.now.book.now ns h.0) (sym (c.as_slice.ensures.items ∙ ap (λ (p : Path). p.flights) (sym c.index-class-class.is))) (head_flights o.case.now.book.now o.case.now.request.now.slices o.at.now x.flights h.0 x.after h.1))

pub charges-requires-clause-count : goal.charges-requires-clause-count
charges-requires-clause-count c =
    let o = c.args.origin.now in
    let b = o.case.now.book.now in
    let k = c.args.class.now in
    let r = c.requires.sought.landings in
    let x = c.index-class-class.result in
    let h = (read_landing o r.0 k.paths.now k.landings.now c.args.at c.requires.place.0 _ x _ r.1 c.requires.place.1 c.index-class-class.is).1 in
    let fs = c.flights_of-flights.result in
    let numbers = subst (λ ns. Numbers b ns fs) (append-nil c.as_slice.result.now ∙ c.as_slice.ensures.items ∙ ap (λ (p : Path). p.flights) (sym c.index-class-class.is)) c.flights_of-flights.ensures.numbers in
    subst (λ (gs : List Flight). (1 ≤ length gs) × (length gs ≤ 4)) (sym c.as_slice-2.ensures.items) (flights_few o c.requires.origin r.0 x c.requires.place.0 h fs numbers)

pub charges-requires-clause-carrier : goal.charges-requires-clause-carrier
charges-requires-clause-carrier c =
    let o = c.args.origin.now in
    let b = o.case.now.book.now in
    let k = c.args.class.now in
    let r = c.requires.sought.landings in
    let x = c.index-class-class.result in
    let h = (read_landing o r.0 k.paths.now k.landings.now c.args.at c.requires.place.0 _ x _ r.1 c.requires.place.1 c.index-class-class.is).1 in
    let fs = c.flights_of-flights.result in
    let numbers = subst (λ ns. Numbers b ns fs) (append-nil c.as_slice.result.now ∙ c.as_slice.ensures.items ∙ ap (λ (p : Path). p.flights) (sym c.index-class-class.is)) c.flights_of-flights.ensures.numbers in
    subst (λ (gs : List Flight). OnFirst (λ f. f.carrier ≡ c.args.sought.now.rule.now.carrier) gs) (sym c.as_slice-2.ensures.items) (flights_own o c.requires.origin r.0 x c.requires.place.0 h c.args.sought.now.rule.now.carrier c.requires.sought.own.carrier fs numbers)

pub returns : goal.returns
returns c = λ l got path stands gs n.
    let o = c.args.origin.now in
    let b = o.case.now.book.now in
    let k = c.args.class.now in
    let r = c.requires.sought.landings in
    let x = c.index-class-class.result in
    let read = read_landing o r.0 k.paths.now k.landings.now c.args.at l _ x _ r.1 got c.index-class-class.is in
    let fs = c.flights_of-flights.result in
    let numbers = subst (λ ns. Numbers b ns fs) (append-nil c.as_slice.result.now ∙ c.as_slice.ensures.items ∙ ap (λ (p : Path). p.flights) (sym c.index-class-class.is)) c.flights_of-flights.ensures.numbers in
    let same : x ≡ path = some_one (slice_get k.paths.now l.path) x path read.0 stands in
    let h = landing_at o r.0 k.paths.now k.landings.now l c.args.at path r.1 got stands in
    let own = subst (λ (p : Path). Numbers b p.flights fs) same numbers in
    let flights = sym (flights_are o c.requires.origin r.0 path l h fs own) ∙ flights_are o c.requires.origin r.0 path l h gs n in
    says_from c.args.sought.now.rule.now c.as_slice-2.result.now gs c.charges.result (c.as_slice-2.ensures.items ∙ flights) c.charges.ensures.some c.charges.ensures.none c.charges.ensures.low
