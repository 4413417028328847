use Rattle.std.proofs.Common.{arith}
use Rattle.component_table.specs.Crossings.{GroupPaths, TailPaths}
use Rattle.component_table.proofs.ClassFacts.{class_closed, class_groups}
use Rattle.component_table.proofs.Added.{IsOfOne, adds_first, adds_like, adds_next, adds_none}
use Rattle.law_lemmas.proofs.Lists.{got_read, prefix_self, prefix_trans}
use Rattle.component_table.proofs.crossing.add_groups.Goals as goal

pub returns-then-room-eq0-clause-found : goal.returns-then-room-eq0-clause-found
returns-then-room-eq0-clause-found c =
    let j = c.args.joint.now in
    let k = j.bucket.now in
    adds_none k.case.now.book.now k.case.now.request.now k.at.now (TailPaths k j.tails.now) _ _ (λ o price x w. class_closed j c.args.joined.now.class.now c.requires.joint c.requires.tails c.limits.ensures o price x w _ c.in_ok-turn_to_class.ensures.fits c.if-room-eq0.true)

pub loop-group-init : goal.loop-group-init
loop-group-init c =
    let j = c.args.joint.now in
    let k = j.bucket.now in
    record {
      room = c.in_ok-turn_to_class.ensures;
      outlines = c.requires.outlines;
      stays = prefix_self _;
      found = adds_first k.case.now.book.now k.case.now.request.now k.at.now (GroupPaths j) c.groups-groups.result.now 0 _ _;
    }

pub loop-group-preserved : goal.loop-group-preserved
loop-group-preserved c =
    let j = c.args.joint.now in
    let k = j.bucket.now in
    let i = c.loop-group.invariant in
    record {
      room = c.in_ok-add_group.ensures.room;
      outlines = c.add_group.ensures.outlines;
      stays = prefix_trans _ _ _ i.stays c.add_group.ensures.stays;
      found = adds_next k.case.now.book.now k.case.now.request.now k.at.now (GroupPaths j) c.groups-groups.result.now 0 c.loop-group.group-index _ _ _ _ _ _ (got_read c.groups-groups.result.now c.loop-group.group-index _ c.loop-group-test.true) c.add_group.ensures.stays i.found c.in_ok-add_group.ensures.found;
    }

pub returns-clause-found : goal.returns-clause-found
returns-clause-found c =
    let j = c.args.joint.now in
    let k = j.bucket.now in
    let e = c.loop-group-test.false in
    adds_like k.case.now.book.now k.case.now.request.now k.at.now (IsOfOne (GroupPaths j) c.groups-groups.result.now 0 c.loop-group.group-index) (TailPaths k j.tails.now) _ _ _
    (λ o price x w. class_groups j c.args.joined.now.class.now c.requires.joint c.requires.tails c.limits.ensures o price x w c.args.joined.now.end c.requires.end c.groups-groups.result.now c.loop-group.group-index c.groups-groups.ensures (omega (arith, e))) c.loop-group.invariant.found
