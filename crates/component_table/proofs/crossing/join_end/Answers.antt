use Rattle.std.proofs.Common.{◌∙◌, sym, subst, arith}
use Rattle.component_table.specs.Crossings.{ClassPaths, EndPaths}
use Rattle.component_table.proofs.EndFacts.{class_at, class_end, end_classes, end_within, one_wider, stays_on}
use Rattle.component_table.proofs.PairFacts.{key_of}
use Rattle.fare_ends.specs.declared.ends.FareEnds.{FareEnds}
use Rattle.fare_ends.specs.Ends.{IsFareEnd}
use Rattle.component_table.proofs.Added.{IsOfOne, adds_like, adds_next}
use Rattle.law_lemmas.proofs.Lists.{read_got}
use Rattle.component_table.proofs.crossing.join_end.Goals as goal

pub index-requires : goal.index-requires
index-requires c =
    let w = end_within c.args.bucket.now c.args.slice.now c.args.known.now.fares c.requires.slice c.args.end.now c.requires.end in
    let lt = c.loop-at-test.true in
    omega (arith, w, lt)

pub join_class-requires-clause-class : goal.join_class-requires-clause-class
join_class-requires-clause-class c =
    let w = end_within c.args.bucket.now c.args.slice.now c.args.known.now.fares c.requires.slice c.args.end.now c.requires.end in
    let lt = c.loop-at-test.true in
    let one = c.index.result.now in
    class_at c.args.bucket.now c.args.slice.now c.args.known.now.fares c.requires.slice c.loop-at.at one (read_got c.args.slice.now.classes.classes.items c.loop-at.at one one (omega (arith, w, lt)) c.index.ensures)

pub join_class-requires-clause-end : goal.join_class-requires-clause-end
join_class-requires-clause-end c =
    let k = c.args.bucket.now in
    let w = end_within k c.args.slice.now c.args.known.now.fares c.requires.slice c.args.end.now c.requires.end in
    let lt = c.loop-at-test.true in
    let one = c.index.result.now in
    let there = read_got c.args.slice.now.classes.classes.items c.loop-at.at one one (omega (arith, w, lt)) c.index.ensures in
    subst (λ (f : FareEnds). IsFareEnd k.case.now.book.now (key_of k one.end) f c.args.end.now.end) (sym c.loop-at.invariant.fares) (class_end k c.args.slice.now c.args.known.now.fares c.requires.slice c.args.end.now c.requires.end c.loop-at.at one c.loop-at.invariant.low lt there)

pub loop-at-preserved : goal.loop-at-preserved
loop-at-preserved c =
    let k = c.args.bucket.now in
    let i = c.loop-at.invariant in
    let w = end_within k c.args.slice.now c.args.known.now.fares c.requires.slice c.args.end.now c.requires.end in
    let lt = c.loop-at-test.true in
    let one = c.index.result.now in
    record {
      known = c.join_class.ensures.known;
      fares = c.join_class.ensures.fares ∙ i.fares;
      stays = stays_on _ _ _ i.stays c.join_class.ensures.stays;
      low = let l = i.low in omega (arith, l);
      ruled = c.in_ok-join_class.ensures.ruled;
      found = adds_next k.case.now.book.now k.case.now.request.now k.at.now (ClassPaths k c.args.slice.now) c.args.slice.now.classes.classes.items c.args.end.now.from c.loop-at.at one _ _ _ _ _ (read_got c.args.slice.now.classes.classes.items c.loop-at.at one one (omega (arith, w, lt)) c.index.ensures)
          c.join_class.ensures.stays.outlines i.found c.in_ok-join_class.ensures.found;
    }

pub returns-clause-found : goal.returns-clause-found
returns-clause-found c =
    let k = c.args.bucket.now in
    let e = c.args.end.now in
    let f = c.loop-at-test.false in
    adds_like k.case.now.book.now k.case.now.request.now k.at.now (IsOfOne (ClassPaths k c.args.slice.now) c.args.slice.now.classes.classes.items e.from c.loop-at.at) (EndPaths k c.args.slice.now e) _ _ _
    (λ o price x w. one_wider (ClassPaths k c.args.slice.now) c.args.slice.now.classes.classes.items e.from e.to c.loop-at.at (omega (arith, f)) o x.numbers (end_classes k c.args.slice.now e o x.numbers w)) c.loop-at.invariant.found
