use Rattle.std.proofs.Common.{◌+◌, get_or, take, subst}
use Rattle.std.proofs.lemmas.List.{take_all}
use Rattle.joint_paths.specs.JoinEnds.{AddsPlaceEnds}
use Rattle.joint_paths.proofs.JoinFacts.{no_end, place_next, places_grown, places_none}
use Rattle.law_lemmas.proofs.Lists.{front_at, prefix_trans}
use Rattle.joint_paths.proofs.join_ends.add_places.Goals as goal

pub loop-end-init : goal.loop-end-init
loop-end-init c = places_none c.args.case.now.book.now c.args.place c.args.found.now.items

pub loop-end-preserved : goal.loop-end-preserved
loop-end-preserved c =
    let es = c.args.tails.now in
    let i = c.loop-end.end-index in
    place_next c.args.case.now.book.now c.args.place (take i es) (take (i + 1) es) (get_or es i no_end) (front_at es i no_end c.loop-end-test.true) c.args.found.now.items c.loop-end.found.items c.loop-end.invariant c.add_place_end.new.found.items c.in_ok-add_place_end.ensures.added

pub returns-in_err-add_place_end-clause-grows : goal.returns-in_err-add_place_end-clause-grows
returns-in_err-add_place_end-clause-grows c =
    prefix_trans c.args.found.now.items c.loop-end.found.items c.add_place_end.new.found.items (places_grown c.args.case.now.book.now _ c.args.place c.args.found.now.items c.loop-end.found.items c.loop-end.invariant) c.add_place_end.ensures.grows

pub returns-clause-grows : goal.returns-clause-grows
returns-clause-grows c = places_grown c.args.case.now.book.now _ c.args.place c.args.found.now.items c.loop-end.found.items c.loop-end.invariant

pub returns-clause-added : goal.returns-clause-added
returns-clause-added c = subst (λ es. AddsPlaceEnds c.args.case.now.book.now es c.args.place c.args.found.now.items c.loop-end.found.items) (take_all c.loop-end.end-index c.args.tails.now c.loop-end-test.false) c.loop-end.invariant
