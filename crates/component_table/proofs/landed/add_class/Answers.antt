use Rattle.std.proofs.Common.{◌≡◌, length, slice_get, ap, refl, subst, sym, ◌∙◌, arith}
use Rattle.component_table.specs.Landed.{GroupLanded, IsGroupOfClass, IsLandedClass, SaysOfLandings}
use Rattle.component_table.specs.Tables.{AddsThose}
use Rattle.component_table.proofs.Added.{IsOfOne, adds_first, adds_next}
use Rattle.component_table.proofs.LandedFacts.{class_added, class_end, class_group, stays_on, stays_self}
use Rattle.fare_ends.specs.declared.ends.FareEnd.{FareEnd}
use Rattle.fare_ends.specs.declared.ends.FareEnds.{FareEnds}
use Rattle.joint_paths.specs.Said.{AreSaid}
use Rattle.law_lemmas.proofs.Lists.{got_within}
use Rattle.law_lemmas.proofs.Options.{none_some}
use Rattle.component_table.proofs.landed.add_class.Goals as goal

pub end_of-end-requires : goal.end_of-end-requires
end_of-end-requires c = got_within c.args.class.now.landings.now 0 c.requires.class.first c.requires.class.stands

pub loop-at-init : goal.loop-at-init
loop-at-init c =
    let o = c.args.origin.now in
    let k = c.args.class.now in
    let known = c.args.known.now in
    record {
      low = omega arith;
      known = c.requires.known;
      fares = refl;
      stays = stays_self known;
      said = λ rule is. absurd (none_some rule (sym c.clear.ensures ∙ is));
      added = adds_first o.case.now.book.now o.case.now.request.now o.at.now (GroupLanded k.paths.now k.landings.now) known.fares.groups.items c.end_of-end.result.from known.outlines.of.items c.args.found.now.items;
    }

pub group_at-group-requires : goal.group_at-group-requires
group_at-group-requires c =
    let o = c.args.origin.now in
    let known = c.args.known.now in
    let is = c.requires.class in
    let within = (class_end o c.requires.origin known.fares c.requires.known.fares.rules c.limits.ensures c.args.class.now is).range.within in
    let end = ap (λ (e : FareEnd). e.to) (c.end_of-end.ensures is.first is.stands) in
    let same = ap (λ (f : FareEnds). length f.groups.items) c.loop-at.invariant.fares in
    omega (arith, c.loop-at-test.true, within, end, same)

pub add_group-requires-clause-class : goal.add_group-requires-clause-class
add_group-requires-clause-class c = subst (λ (f : FareEnds). IsLandedClass c.args.origin.now f c.args.class.now) (sym c.loop-at.invariant.fares) c.requires.class

pub add_group-requires-clause-group : goal.add_group-requires-clause-group
add_group-requires-clause-group c =
    let o = c.args.origin.now in
    let known = c.args.known.now in
    let is = c.requires.class in
    let end = c.end_of-end.ensures is.first is.stands in
    let from = ap (λ (e : FareEnd). e.from) end in
    let to = ap (λ (e : FareEnd). e.to) end in
    let low = c.loop-at.invariant.low in
    let got = ap (λ (f : FareEnds). slice_get f.groups.items c.loop-at.at) (sym c.loop-at.invariant.fares) ∙ c.group_at-group.ensures in
    subst (λ (f : FareEnds). IsGroupOfClass o f c.args.class.now c.group_at-group.result) (sym c.loop-at.invariant.fares)
    (class_group o c.requires.origin known.fares c.requires.known.fares.rules c.limits.ensures c.args.class.now is c.loop-at.at c.group_at-group.result (omega (arith, low, from)) (omega (arith, c.loop-at-test.true, to)) got)

pub add_group-requires-clause-said : goal.add_group-requires-clause-said
add_group-requires-clause-said c =
    let o = c.args.origin.now in
    let k = c.args.class.now in
    subst (λ (f : FareEnds). AreSaid (SaysOfLandings o f.rules.of.items k) (length k.landings.now) c.loop-at.charges) (sym c.loop-at.invariant.fares) c.loop-at.invariant.said

pub returns-in_err-add_group-clause-fares : goal.returns-in_err-add_group-clause-fares
returns-in_err-add_group-clause-fares c = c.add_group.ensures.fares ∙ c.loop-at.invariant.fares

pub returns-in_err-add_group-clause-stays : goal.returns-in_err-add_group-clause-stays
returns-in_err-add_group-clause-stays c = stays_on c.args.known.now c.loop-at.known c.add_group.new.known c.loop-at.invariant.stays c.add_group.ensures.stays

pub loop-at-preserved : goal.loop-at-preserved
loop-at-preserved c =
    let o = c.args.origin.now in
    let k = c.args.class.now in
    let known = c.args.known.now in
    let i = c.loop-at.invariant in
    let got = ap (λ (f : FareEnds). slice_get f.groups.items c.loop-at.at) (sym i.fares) ∙ c.group_at-group.ensures in
    record {
      low = let l = i.low in omega (arith, l);
      known = c.add_group.ensures.known;
      fares = c.add_group.ensures.fares ∙ i.fares;
      stays = stays_on known c.loop-at.known c.add_group.new.known i.stays c.add_group.ensures.stays;
      said = subst (λ (f : FareEnds). AreSaid (SaysOfLandings o f.rules.of.items k) (length k.landings.now) c.add_group.new.charges) i.fares c.in_ok-add_group.ensures.said;
      added = adds_next o.case.now.book.now o.case.now.request.now o.at.now (GroupLanded k.paths.now k.landings.now) known.fares.groups.items c.end_of-end.result.from c.loop-at.at c.group_at-group.result
          c.loop-at.known.outlines.of.items c.add_group.new.known.outlines.of.items c.args.found.now.items c.loop-at.found.items c.add_group.new.found.items got c.add_group.ensures.stays.outlines i.added c.in_ok-add_group.ensures.found;
    }

pub returns-clause-known : goal.returns-clause-known
returns-clause-known c = c.loop-at.invariant.known

pub returns-clause-fares : goal.returns-clause-fares
returns-clause-fares c = c.loop-at.invariant.fares

pub returns-clause-stays : goal.returns-clause-stays
returns-clause-stays c = c.loop-at.invariant.stays

pub returns-clause-found : goal.returns-clause-found
returns-clause-found c =
    let o = c.args.origin.now in
    let b = o.case.now.book.now in
    let q = o.case.now.request.now in
    let at = o.at.now in
    let k = c.args.class.now in
    let fares = c.args.known.now.fares in
    let rules = c.requires.known.fares.rules in
    let is = c.requires.class in
    let end = c.end_of-end.ensures is.first is.stands in
    let from = ap (λ (e : FareEnd). e.from) end in
    let to = ap (λ (e : FareEnd). e.to) end in
    let turn = (class_end o c.requires.origin fares rules c.limits.ensures k is).range.in_turn in
    let past : c.loop-at.at ≡ is.first.end.to = let l = c.loop-at-test.false in let m = c.loop-at.auto.at-end in let low = c.loop-at.invariant.low in omega (arith, l, m, low, from, to, turn) in
    let kind = GroupLanded k.paths.now k.landings.now in
    let known = c.loop-at.known.outlines.of.items in
    class_added o c.requires.origin fares rules c.limits.ensures k is known c.args.found.now.items c.loop-at.found.items
    (subst (λ n. AddsThose b q at (IsOfOne kind fares.groups.items is.first.end.from n) known c.args.found.now.items c.loop-at.found.items) past
    (subst (λ n. AddsThose b q at (IsOfOne kind fares.groups.items n c.loop-at.at) known c.args.found.now.items c.loop-at.found.items) from c.loop-at.invariant.added))
