use Rattle.std.proofs.Common.{List, sym, ap, subst, vec_items, ◌∙◌, arith}
use Rattle.fare_ends.specs.Ends.{IsRange, between}
use Rattle.fare_ends.proofs.EndFacts.{knows_self}
use Rattle.fare_law.specs.Lists.{IsPrefix}
use Rattle.joint_paths.specs.declared.join_ends.JoinEnd.{JoinEnd}
use Rattle.joint_paths.specs.declared.join_ends.JoinEnds.{JoinEnds}
use Rattle.joint_paths.specs.declared.join_ends.JoinRange.{JoinRange}
use Rattle.joint_paths.specs.declared.tail_classes.TailEnd.{TailEnd}
use Rattle.joint_paths.proofs.JoinFacts.{all_joins, ends_stay, own_joins}
use Rattle.law_lemmas.proofs.Lists.{prefix_self}
use Rattle.joint_paths.proofs.join_ends.JoinEnds.add.Goals as goal

pub returns-in_err-places-clause-joins : goal.returns-in_err-places-clause-joins
returns-in_err-places-clause-joins c =
    let self = c.args.self.now in
    let f = c.find_place.ensures in
    ends_stay c.args.case.now.book.now c.args.tails.now c.args.fares.now c.args.fares.now self c.find_place.new.self c.requires.joins (knows_self c.args.fares.now) f.places (subst (λ (xs : List JoinEnd). IsPrefix self.ends.items xs) (sym (ap vec_items f.ends)) (prefix_self self.ends.items)) (ap vec_items f.kept)

pub ends_within-there-requires : goal.ends_within-there-requires
ends_within-there-requires c = subst (λ (xs : List TailEnd). IsRange xs c.in_ok-places.places.from c.in_ok-places.places.to) (sym c.as_slice.ensures.value) c.in_ok-places.ensures.found.range

pub returns-in_err-add_ends-clause-joins : goal.returns-in_err-add_ends-clause-joins
returns-in_err-add_ends-clause-joins c =
    let self = c.args.self.now in
    let mid = c.find_place.new.self in
    let new : JoinEnds = record { places = mid.places; kept_places = mid.kept_places; place_ends = mid.place_ends; carriers = mid.carriers; kept = mid.kept; ends = c.add_ends.new.found } in
    let f = c.find_place.ensures in
    ends_stay c.args.case.now.book.now c.args.tails.now c.args.fares.now c.add_ends.new.fares self new c.requires.joins c.add_ends.ensures.knows f.places (subst (λ (xs : List JoinEnd). IsPrefix xs c.add_ends.new.found.items) (ap vec_items f.ends) c.add_ends.ensures.grows) (ap vec_items f.kept)

pub returns-in_err-keep-clause-joins : goal.returns-in_err-keep-clause-joins
returns-in_err-keep-clause-joins c =
    let mid = c.find_place.new.self in
    let f = c.find_place.ensures in
    let p = c.in_ok-places.places in
    let range : JoinRange = record { from = c.len-from.result; to = c.len-to.result } in
    let there = c.ends_within-there.ensures ∙ ap (λ (xs : List TailEnd). between xs p.from p.to) c.as_slice.ensures.value in
    let k = c.keep.ensures in
    all_joins c.args.case.now.book.now c.args.tails.now c.args.fares.now c.add_ends.new.fares c.args.key p range c.args.self.now mid c.keep.new.self c.ends_within-there.result.now c.add_ends.new.found.items c.requires.joins f.places f.kept f.ends c.in_ok-places.ensures.found there c.add_ends.ensures.knows c.in_ok-add_ends.ensures.added
    (omega (arith, c.len-from.ensures)) (omega (arith, c.len-to.ensures)) k.places k.found (ap vec_items k.ends) k.kept

pub returns-clause-joins : goal.returns-clause-joins
returns-clause-joins c =
    let mid = c.find_place.new.self in
    let f = c.find_place.ensures in
    let p = c.in_ok-places.places in
    let range : JoinRange = record { from = c.len-from.result; to = c.len-to.result } in
    let there = c.ends_within-there.ensures ∙ ap (λ (xs : List TailEnd). between xs p.from p.to) c.as_slice.ensures.value in
    let k = c.keep.ensures in
    all_joins c.args.case.now.book.now c.args.tails.now c.args.fares.now c.add_ends.new.fares c.args.key p range c.args.self.now mid c.keep.new.self c.ends_within-there.result.now c.add_ends.new.found.items c.requires.joins f.places f.kept f.ends c.in_ok-places.ensures.found there c.add_ends.ensures.knows c.in_ok-add_ends.ensures.added
    (omega (arith, c.len-from.ensures)) (omega (arith, c.len-to.ensures)) k.places k.found (ap vec_items k.ends) k.kept

pub returns-clause-ends : goal.returns-clause-ends
returns-clause-ends c =
    let mid = c.find_place.new.self in
    let f = c.find_place.ensures in
    let p = c.in_ok-places.places in
    let range : JoinRange = record { from = c.len-from.result; to = c.len-to.result } in
    let there = c.ends_within-there.ensures ∙ ap (λ (xs : List TailEnd). between xs p.from p.to) c.as_slice.ensures.value in
    let k = c.keep.ensures in
    own_joins c.args.case.now.book.now c.args.tails.now c.args.fares.now c.add_ends.new.fares c.args.key p range c.args.self.now mid c.keep.new.self c.ends_within-there.result.now c.add_ends.new.found.items c.requires.joins f.places f.kept f.ends c.in_ok-places.ensures.found there c.add_ends.ensures.knows c.in_ok-add_ends.ensures.added
    (omega (arith, c.len-from.ensures)) (omega (arith, c.len-to.ensures)) k.places k.found (ap vec_items k.ends) k.kept
