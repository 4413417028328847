use Rattle.std.proofs.Common.{get_or, length, sym, subst, arith}
use Rattle.component_table.specs.Crossings.{FromHeads, GoesOn}
use Rattle.component_table.proofs.EndFacts.{one_wider, stays_grown}
use Rattle.component_table.proofs.HeadFacts.{bucket_heads, crossing_heads, heads_reordered, no_head, of_part}
use Rattle.fare_ends.specs.declared.ends.FareEnds.{FareEnds}
use Rattle.fare_ends.specs.Ends.{between}
use Rattle.joint_paths.specs.JoinEnds.{AreJoinEnds}
use Rattle.component_table.specs.Begun.{AreCrossingHeads, CrossingPaths}
use Rattle.component_table.proofs.Added.{IsOfOne, adds_like, adds_range}
use Rattle.law_lemmas.proofs.Lists.{got_read, prefix_self}
use Rattle.component_table.proofs.crossing.join.Goals as goal

pub join_heads-requires-clause-heads : goal.join_heads-requires-clause-heads
join_heads-requires-clause-heads c =
    let p = c.args.origin.now in
    let b = p.case.now.book.now in
    let q = p.case.now.request.now in
    let heads = c.as_slice-heads.result.now in
    let are = subst (AreCrossingHeads b q p.at.now) (sym c.as_slice-heads.ensures.value) (heads_reordered b q p.at.now _ _ c.sort_unstable_by_key.ensures.permutation c.requires.heads) in
    bucket_heads b q p.at.now heads are (get_or heads c.loop-from.from no_head) c.loop-from.from c.past_bucket-to.result (c.past_bucket-to.ensures.beside _ (got_read heads c.loop-from.from no_head c.loop-from-test.true))

pub loop-from-preserved : goal.loop-from-preserved
loop-from-preserved c =
    let p = c.args.origin.now in
    let b = p.case.now.book.now in
    let q = p.case.now.request.now in
    let i = c.loop-from.invariant in
    let heads = c.as_slice-heads.result.now in
    record {
      markets = c.find.ensures.markets;
      known = c.join_heads.ensures.known;
      stays = stays_grown _ _ _ _ i.stays c.find.ensures.grows (prefix_self _) c.join_heads.ensures.stays;
      slice = record { tails = i.slice.tails; classes = i.slice.classes; joins = subst (λ (f : FareEnds). AreJoinEnds b f c.loop-from.slice.classes.ends.items c.find.new.self) (sym c.join_heads.ensures.fares) (subst (λ es. AreJoinEnds b c.find.new.fares es c.find.new.self) c.as_slice-ends.ensures.value c.find.ensures.joins) };
      keeps = record { slice = i.keeps.slice; paths = i.keeps.paths; marks = i.keeps.marks; classes = i.keeps.classes; ends = i.keeps.ends };
      within = c.past_bucket-to.ensures.within;
      found = adds_range b q p.at.now (GoesOn b q p.at.now) heads 0 c.loop-from.from c.past_bucket-to.result (FromHeads b q p.at.now (between heads c.loop-from.from c.past_bucket-to.result)) _ _ _ _ _ c.join_heads.ensures.stays.outlines i.found c.in_ok-join_heads.ensures.found
          (of_part b q p.at.now heads c.loop-from.from c.past_bucket-to.result);
    }

pub returns-clause-found : goal.returns-clause-found
returns-clause-found c =
    let p = c.args.origin.now in
    let b = p.case.now.book.now in
    let q = p.case.now.request.now in
    let heads = c.as_slice-heads.result.now in
    let are = subst (AreCrossingHeads b q p.at.now) (sym c.as_slice-heads.ensures.value) (heads_reordered b q p.at.now _ _ c.sort_unstable_by_key.ensures.permutation c.requires.heads) in
    let f = c.loop-from-test.false in
    adds_like b q p.at.now (IsOfOne (GoesOn b q p.at.now) heads 0 c.loop-from.from) (CrossingPaths b q p.at.now) _ _ _
    (λ o price x w. one_wider (GoesOn b q p.at.now) heads 0 (length heads) c.loop-from.from (omega (arith, f)) o x.numbers (crossing_heads b q p.at.now heads are c.limits.ensures o price x w)) c.loop-from.invariant.found
