use Rattle.std.proofs.Common.{refl, ap, vec_items, arith}
use Rattle.joint_paths.specs.declared.join_ends.JoinEnds.{JoinEnds}
use Rattle.joint_paths.specs.declared.join_ends.JoinRange.{JoinRange}
use Rattle.joint_paths.proofs.JoinFacts.{place_done, places_stay}
use Rattle.joint_paths.proofs.join_ends.JoinEnds.add_place.Goals as goal

pub returns-in_err-add_places-clause-places : goal.returns-in_err-add_places-clause-places
returns-in_err-add_places-clause-places c =
    let self = c.args.self.now in
    let new : JoinEnds = record { places = self.places; kept_places = self.kept_places; place_ends = c.add_places.new.found; carriers = self.carriers; kept = self.kept; ends = self.ends } in
    places_stay c.args.case.now.book.now c.args.tails.now self new c.requires.places c.add_places.ensures.grows (refl)

pub returns-in_err-keep_place-clause-places : goal.returns-in_err-keep_place-clause-places
returns-in_err-keep_place-clause-places c =
    let range : JoinRange = record { from = c.len-from.result; to = c.len-to.result } in
    let k = c.keep_place.ensures in
    (place_done c.args.case.now.book.now c.args.tails.now c.args.place range c.args.self.now c.keep_place.new.self c.add_places.new.found.items c.requires.places c.in_ok-add_places.ensures.added (omega (arith, c.len-from.ensures)) (omega (arith, c.len-to.ensures)) (ap vec_items k.found) k.places).0

pub returns-clause-places : goal.returns-clause-places
returns-clause-places c =
    let range : JoinRange = record { from = c.len-from.result; to = c.len-to.result } in
    let k = c.keep_place.ensures in
    (place_done c.args.case.now.book.now c.args.tails.now c.args.place range c.args.self.now c.keep_place.new.self c.add_places.new.found.items c.requires.places c.in_ok-add_places.ensures.added (omega (arith, c.len-from.ensures)) (omega (arith, c.len-to.ensures)) (ap vec_items k.found) k.places).0

pub returns-clause-found : goal.returns-clause-found
returns-clause-found c =
    let range : JoinRange = record { from = c.len-from.result; to = c.len-to.result } in
    let k = c.keep_place.ensures in
    (place_done c.args.case.now.book.now c.args.tails.now c.args.place range c.args.self.now c.keep_place.new.self c.add_places.new.found.items c.requires.places c.in_ok-add_places.ensures.added (omega (arith, c.len-from.ensures)) (omega (arith, c.len-to.ensures)) (ap vec_items k.found) k.places).1
