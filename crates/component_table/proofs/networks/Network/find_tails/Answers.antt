use Rattle.std.proofs.Common.{◌≡◌, [], ◌∷◌, ◌++◌, ap, length, refl, slice_get, subst, sym, ◌∙◌, arith}
use Rattle.component_table.proofs.NetworkFacts.{IsOwnSlice, ends_none, network_grown, network_with, room_more, tails_short}
use Rattle.component_table.specs.declared.slice_tails.SliceTails.{SliceTails}
use Rattle.component_table.specs.Crossings.{IsSliceTails}
use Rattle.fare_ends.specs.Tails.{AreEnds, AreTailsOver}
use Rattle.fare_ends.proofs.EndFacts.{knows_self}
use Rattle.fare_law.specs.Lists.{Each}
use Rattle.flight_paths.specs.Marks.{AreMarks}
use Rattle.joint_paths.specs.Tails.{AreTailClasses, IsShortPath}
use Rattle.law_lemmas.proofs.Lists.{got_last, prefix_self}
use Rattle.component_table.proofs.networks.Network.find_tails.Goals as goal

pub classes_of_tails-requires-clause-paths : goal.classes_of_tails-requires-clause-paths
classes_of_tails-requires-clause-paths c =
    let b = c.args.book.now in
    let q = c.args.request.now in
    let over : AreTailsOver b q.slices c.args.slice c.in_ok-paths.paths = λ x places flights. c.in_ok-paths.ensures x (record { places = places ∙ c.schedule_of.ensures.places; flights = flights ∙ c.schedule_of.ensures.flights }) in
    subst (Each (IsShortPath b)) (sym c.as_slice-4.ensures) (tails_short b q c.args.slice c.in_ok-paths.paths (over b refl refl))

pub returns-in_err-classes-clause-network : goal.returns-in_err-classes-clause-network
returns-in_err-classes-clause-network c =
    let b = c.args.book.now in
    let q = c.args.request.now in
    let n = c.args.self.now in
    network_with b q n _ c.requires c.requires.markets c.classes_of_tails.ensures.masks refl refl (knows_self n.room.known.fares)
    (room_more b q n.room _ c.requires.room (record { fares = c.requires.room.known.fares; outlines = c.requires.room.known.outlines }) (prefix_self n.room.known.outlines.of.items) refl refl)

pub returns-in_err-push-clause-network : goal.returns-in_err-push-clause-network
returns-in_err-push-clause-network c =
    let b = c.args.book.now in
    let q = c.args.request.now in
    let n = c.args.self.now in
    network_with b q n _ c.requires c.requires.markets c.in_ok-classes.ensures.masks c.in_err-push.ensures.items refl (knows_self n.room.known.fares)
    (room_more b q n.room _ c.requires.room (record { fares = c.requires.room.known.fares; outlines = c.requires.room.known.outlines }) (prefix_self n.room.known.outlines.of.items) refl refl)

pub returns-clause-network : goal.returns-clause-network
returns-clause-network c =
    let b = c.args.book.now in
    let q = c.args.request.now in
    let n = c.args.self.now in
    let fares = n.room.known.fares in
    let t : SliceTails = record { slice = c.args.slice; paths = c.in_ok-paths.paths; marks = c.in_ok-marks.marks; classes = c.in_ok-classes.classes; joins = c.new.result; ends = c.in_ok-ends.ends } in
    let over : AreTailsOver b q.slices t.slice t.paths = λ x places flights. c.in_ok-paths.ensures x (record { places = places ∙ c.schedule_of.ensures.places; flights = flights ∙ c.schedule_of.ensures.flights }) in
    let marks = subst (λ fs. AreMarks fs t.paths t.marks) (sym c.schedule_of-2.ensures.flights) (subst (λ ps. AreMarks c.schedule_of-2.result.now.flights ps t.marks) c.as_slice-2.ensures c.in_ok-marks.ensures) in
    let ends = subst (λ ps. AreEnds b ps t.ends) c.as_slice-3.ensures c.in_ok-ends.ensures in
    let classes = subst (λ ps. AreTailClasses b q ps t.classes) c.as_slice-4.ensures c.in_ok-classes.ensures.classes in
    let slice : IsSliceTails b q fares t = record { tails = over b refl refl; classes = classes; joins = ends_none b fares t.classes.ends.items t.joins c.new.ensures.places c.new.ensures.kept } in
    let own : IsOwnSlice b q fares t = record { over = over; marks = marks; ends = ends; slice = slice } in
    network_grown b q n _ t c.requires own refl c.in_ok-classes.ensures.masks c.in_ok-push.ensures.items refl refl
    (room_more b q n.room _ c.requires.room (record { fares = c.requires.room.known.fares; outlines = c.requires.room.known.outlines }) (prefix_self n.room.known.outlines.of.items) refl refl)

pub returns-clause-tails : goal.returns-clause-tails
returns-clause-tails c =
    let old = c.args.self.now.tails.items in
    let t : SliceTails = record { slice = c.args.slice; paths = c.in_ok-paths.paths; marks = c.in_ok-marks.marks; classes = c.in_ok-classes.classes; joins = c.new.result; ends = c.in_ok-ends.ends } in
    let n : c.len-at.result ≡ length old = omega (arith, c.len-at.ensures) in
    record { kept = t; stands = ap (λ xs. slice_get xs c.len-at.result) c.in_ok-push.ensures.items ∙ ap (slice_get (old ++ t ∷ [])) n ∙ got_last old t; slice_is = refl }
