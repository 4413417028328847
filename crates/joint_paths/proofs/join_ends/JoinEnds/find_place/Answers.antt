use Rattle.std.proofs.Common.{List, subst}
use Rattle.fare_law.specs.Lists.{IsIn}
use Rattle.joint_paths.specs.declared.join_ends.PlaceJoins.{PlaceJoins}
use Rattle.joint_paths.specs.JoinEnds.{ArePlaceEnds}
use Rattle.law_lemmas.proofs.EachOne.{each_in}
use Rattle.joint_paths.proofs.join_ends.JoinEnds.find_place.Goals as goal

pub returns-in-Some-clause-found : goal.returns-in-Some-clause-found
returns-in-Some-clause-found c =
    let self = c.args.self.now in
    let kept : PlaceJoins = record { place = c.args.place; range = c.in-Some.range } in
    each_in (λ (p : PlaceJoins). ArePlaceEnds c.args.case.now.book.now c.args.tails.now p.place p.range self.place_ends.items) self.kept_places.items kept c.requires.places (subst (λ (xs : List PlaceJoins). IsIn kept xs) c.as_slice.ensures.value c.in-Some.ensures)
