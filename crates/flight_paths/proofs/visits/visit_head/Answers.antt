use Rattle.std.proofs.Common.{◌≡◌, ◌++◌, ◌∷◌, [], bit_or, refl, sym, subst}
use Rattle.flight_paths.specs.Heads.{AreFrom, AreRest, Saw, chosen}
use Rattle.flight_paths.specs.Marks.{HasBits}
use Rattle.flight_paths.specs.Plans.{plan_book}
use Rattle.flight_paths.specs.Ways.{AreFlightsOf}
use Rattle.flight_paths.proofs.Joining.{head_flights}
use Rattle.flight_paths.proofs.Marking.{first_bit_more}
use Rattle.flight_paths.proofs.Seeing.{from_alone, from_rest, on_ok, saw_more, saw_one}
use Rattle.flight_paths.proofs.visits.visit_head.Goals as goal

pub returns-in-Some : goal.returns-in-Some
returns-in-Some g c =
    let b = plan_book c.args.schedule.now in
    let sl = c.args.slices.now in
    let at = c.args.start.now in
    let h = c.args.head.now in
    let ts = chosen c.args.tails.now.all.now c.args.tails.now.numbers.now in
    let old = g.V.PathVisitor.told c.args.visitor.now in
    let mid = g.V.PathVisitor.told c.visit.new.self in
    let new = g.V.PathVisitor.told c.visit_tails.new.visitor in
    on_ok (Saw mid new (AreRest b sl at h ts)) (Saw old new (AreFrom b sl at h ts)) c.visit_tails.result c.visit_tails.ensures
    (λ rest. saw_more old mid new (λ ps. ps ≡ h ∷ []) (AreRest b sl at h ts) (AreFrom b sl at h ts) (saw_one old mid (λ ps. ps ≡ h ∷ []) h c.in_ok-visit.ensures refl) rest
    (λ ps qs e r. subst (λ xs. AreFrom b sl at h ts (xs ++ qs)) (sym e) (from_rest b sl at h ts qs r)))

pub returns-in-None : goal.returns-in-None
returns-in-None g c =
    let b = plan_book c.args.schedule.now in
    let sl = c.args.slices.now in
    let at = c.args.start.now in
    let h = c.args.head.now in
    let ts = chosen c.args.tails.now.all.now c.args.tails.now.numbers.now in
    saw_one (g.V.PathVisitor.told c.args.visitor.now) (g.V.PathVisitor.told c.visit.new.self) (AreFrom b sl at h ts) h c.in_ok-visit.ensures (from_alone b sl at h ts c.in-None.ensures.none)

pub arrivals-places-requires-clause-known : goal.arrivals-places-requires-clause-known
arrivals-places-requires-clause-known g c =
    let b = plan_book c.args.schedule.now in
    let h = c.args.head.now in
    let fs = c.requires.head.0 in
    let known = head_flights b c.args.slices.now c.args.start.now h.flights fs h.after c.requires.head.1 in
    (fs, subst (λ ns. AreFlightsOf c.flights.result.now ns fs) (sym c.as_slice.ensures.items) (subst (λ xs. AreFlightsOf xs h.flights fs) (sym c.flights.ensures.flights) known))

pub visit_tails-requires-clause-places : goal.visit_tails-requires-clause-places
visit_tails-requires-clause-places g c = λ fs known.
    c.arrivals-places.ensures fs (subst (λ ns. AreFlightsOf c.flights.result.now ns fs) (sym c.as_slice.ensures.items) (subst (λ xs. AreFlightsOf xs c.args.head.now.flights fs) (sym c.flights.ensures.flights) known))

pub visit_tails-requires-clause-mark : goal.visit_tails-requires-clause-mark
visit_tails-requires-clause-mark g c =
    let at = c.args.start.now.place in
    let ps = c.arrivals-places.result in
    let rest : HasBits c.mark_of.result ps = subst (HasBits c.mark_of.result) c.as_slice-in-Some.ensures.items c.mark_of.ensures in
    subst (λ bit. HasBits (bit_or bit c.mark_of.result) (at ∷ ps)) (sym c.bit_of.ensures) (first_bit_more c.mark_of.result at ps rest)
