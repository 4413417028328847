use Rattle.std.proofs.Common.{◌≡◌, ◌+◌, [], refl, subst, sym, ◌∙◌}
use Rattle.flight_paths.specs.Marks.{AreMarks}
use Rattle.asked_keys.specs.Offering.{AreServed}
use Rattle.asked_keys.proofs.ServedPaths.{served}
use Rattle.asked_keys.proofs.served.served_paths.Goals as goal

pub visit_paths-requires-clause-tails : goal.visit_paths-requires-clause-tails
visit_paths-requires-clause-tails c = λ x plan.
    let b = c.args.book.now in
    let q = c.args.request.now in
    let at = c.args.at.now in
    let from = (c.tails_at-tails.ensures.tails at.place (at.slice + 1) c.in_ok-place.ensures.tails).are in
    (from.tails_to x (record { places = plan.places ∙ sym c.schedule_of.ensures.places; flights = plan.flights ∙ sym c.schedule_of.ensures.flights })).are

pub visit_paths-requires-clause-marks : goal.visit_paths-requires-clause-marks
visit_paths-requires-clause-marks c =
    let at = c.args.at.now in
    let some = c.tails_at-tails.result.some in
    subst (λ fs. AreMarks fs some.all.now some.marks.now) c.schedule_of.ensures.flights (c.tails_at-tails.ensures.tails at.place (at.slice + 1) c.in_ok-place.ensures.tails).marks

pub returns-clause-paths : goal.returns-clause-paths
returns-clause-paths c =
    let b = c.args.book.now in
    let q = c.args.request.now in
    let at = c.args.at.now in
    let from = (c.tails_at-tails.ensures.tails at.place (at.slice + 1) c.in_ok-place.ensures.tails).are in
    let saw = c.in_ok-visit_paths.ensures b c.schedule_of.ensures from.wanted (from.tails_to b (record { places = refl; flights = refl })).all in
    let is : c.from_vec.result ≡ saw.seen = c.from_vec.ensures ∙ saw.told [] c.new.ensures.items in
    subst (AreServed b q at) (sym is) (served b q at saw.seen from.wanted from.others saw.are)
