use Rattle.std.proofs.Common.{refl, sym, subst, arith}
use Rattle.fare_law.specs.Lists.{Each}
use Rattle.joint_paths.specs.Ordered.{StandsOrdered}
use Rattle.joint_paths.specs.Tails.{IsShortPath}
use Rattle.joint_paths.proofs.InOrder.{added_all, added_each, all_of}
use Rattle.law_lemmas.proofs.EachOne.{each_got}
use Rattle.law_lemmas.proofs.Lists.{read_got}
use Rattle.joint_paths.proofs.tail_classes.ordered_tails.Goals as goal

pub loop-number-init : goal.loop-number-init
loop-number-init c = record {
  masks = c.requires.masks;
  each = subst (Each (StandsOrdered c.args.case.now.book.now c.args.case.now.request.now c.args.paths.now)) (sym c.new-tails.ensures.items) tt;
  all = λ n path lt got open_path. absurd (omega (arith, lt));
}

pub add_ordered-requires-clause-path : goal.add_ordered-requires-clause-path
add_ordered-requires-clause-path c =
    let ps = c.args.paths.now in
    let n = c.loop-number.number in
    each_got (IsShortPath c.args.case.now.book.now) ps n _ c.requires.paths (read_got ps n _ c.index-paths-number.result c.loop-number-test.true c.index-paths-number.is)

pub loop-number-preserved : goal.loop-number-preserved
loop-number-preserved c =
    let b = c.args.case.now.book.now in
    let q = c.args.case.now.request.now in
    let ps = c.args.paths.now in
    let n = c.loop-number.number in
    let got = read_got ps n _ c.index-paths-number.result c.loop-number-test.true c.index-paths-number.is in
    let short = each_got (IsShortPath b) ps n _ c.requires.paths got in
    record {
      masks = c.add_ordered.ensures.masks;
      each = added_each b q ps n _ refl got short c.loop-number.tails.items c.add_ordered.new.tails.items c.in_ok-add_ordered.ensures.added c.loop-number.invariant.each;
      all = added_all b q ps n _ refl got short c.loop-number.tails.items c.add_ordered.new.tails.items c.in_ok-add_ordered.ensures.added c.loop-number.invariant.all;
    }

pub returns-clause-tails : goal.returns-clause-tails
returns-clause-tails c = all_of c.args.case.now.book.now c.args.case.now.request.now c.args.paths.now c.loop-number.tails.items c.loop-number.number c.loop-number-test.false c.loop-number.invariant.each c.loop-number.invariant.all
