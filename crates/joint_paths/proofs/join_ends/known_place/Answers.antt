use Rattle.std.proofs.Common.{◌<◌, length, subst, arith}
use Rattle.std.proofs.lemmas.Bool.Decides.{nat_tests}
use Rattle.fare_law.specs.declared.names.Place.{Place}
use Rattle.fare_law.specs.Lists.{IsIn}
use Rattle.joint_paths.specs.declared.join_ends.PlaceJoins.{PlaceJoins}
use Rattle.law_lemmas.proofs.Members.{read_in}
use Rattle.joint_paths.proofs.join_ends.known_place.Goals as goal

pub returns-then-is : goal.returns-then-is
returns-then-is c =
    let kept = c.args.kept.now in
    let found = c.in_ok-found.found.now in
    let l = c.in_ok-found.ensures.lookup in
    let t = l.0 in
    let lt : c.in_ok-at.at < length kept = grind (arith, nat_tests, t) in
    subst (λ (p : Place). IsIn {X = PlaceJoins} (record { place = p; range = found.range }) kept) (c.is.ensures.0 c.if-is.true) (read_in kept c.in_ok-at.at found found lt l.1)
