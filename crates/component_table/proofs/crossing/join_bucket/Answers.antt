use Rattle.std.proofs.Common.{◌∙◌, sym, subst, arith}
use Rattle.component_table.specs.Crossings.{BucketPaths, EndPaths}
use Rattle.component_table.proofs.EndFacts.{bucket_ends, join_key, one_wider, stays_on}
use Rattle.fare_ends.specs.declared.ends.FareEnds.{FareEnds}
use Rattle.fare_ends.specs.Ends.{between}
use Rattle.joint_paths.specs.JoinEnds.{IsJoinEnd}
use Rattle.joint_paths.proofs.Ranged.{got_between}
use Rattle.component_table.proofs.Added.{IsOfOne, adds_like, adds_next}
use Rattle.law_lemmas.proofs.EachOne.{each_in}
use Rattle.law_lemmas.proofs.Lists.{read_got}
use Rattle.component_table.proofs.crossing.join_bucket.Goals as goal

pub join_end-requires-clause-end : goal.join_end-requires-clause-end
join_end-requires-clause-end c =
    let k = c.args.bucket.now in
    let t = c.args.slice.now in
    let r = c.args.range in
    let lt = c.loop-at-test.true in
    let w = c.requires.range.range.within in
    let one = c.index.result.now in
    let there = read_got t.joins.ends.items c.loop-at.at one one (omega (arith, w, lt)) c.index.ensures in
    subst (λ (f : FareEnds). IsJoinEnd k.case.now.book.now f t.classes.ends.items (join_key k) one) (sym c.loop-at.invariant.fares)
    (each_in (IsJoinEnd k.case.now.book.now c.args.known.now.fares t.classes.ends.items (join_key k)) (between t.joins.ends.items r.from r.to) one c.requires.range.each (got_between t.joins.ends.items r.from r.to c.loop-at.at one there c.loop-at.invariant.low lt))

pub loop-at-preserved : goal.loop-at-preserved
loop-at-preserved c =
    let k = c.args.bucket.now in
    let t = c.args.slice.now in
    let i = c.loop-at.invariant in
    let lt = c.loop-at-test.true in
    let w = c.requires.range.range.within in
    let one = c.index.result.now in
    record {
      known = c.join_end.ensures.known;
      fares = c.join_end.ensures.fares ∙ i.fares;
      stays = stays_on _ _ _ i.stays c.join_end.ensures.stays;
      low = let l = i.low in omega (arith, l);
      ruled = c.in_ok-join_end.ensures.ruled;
      found = adds_next k.case.now.book.now k.case.now.request.now k.at.now (EndPaths k t) t.joins.ends.items c.args.range.from c.loop-at.at one _ _ _ _ _ (read_got t.joins.ends.items c.loop-at.at one one (omega (arith, w, lt)) c.index.ensures)
          c.join_end.ensures.stays.outlines i.found c.in_ok-join_end.ensures.found;
    }

pub returns-clause-found : goal.returns-clause-found
returns-clause-found c =
    let k = c.args.bucket.now in
    let t = c.args.slice.now in
    let r = c.args.range in
    let f = c.loop-at-test.false in
    adds_like k.case.now.book.now k.case.now.request.now k.at.now (IsOfOne (EndPaths k t) t.joins.ends.items r.from c.loop-at.at) (BucketPaths k) _ _ _
    (λ o price x w. one_wider (EndPaths k t) t.joins.ends.items r.from r.to c.loop-at.at (omega (arith, f)) o x.numbers (bucket_ends k t c.args.known.now.fares c.requires.slice c.requires.bucket c.requires.paths c.limits.ensures r c.requires.range o price x w)) c.loop-at.invariant.found
