use Rattle.std.proofs.Common.{ℕ, ◌<◌, ◌≤◌, sym, subst, List, arith}
use Rattle.fare_law.specs.Lists.{Each, IsIn}
use Rattle.joint_paths.specs.declared.tail_classes.TailEnd.{TailEnd}
use Rattle.joint_paths.specs.Tails.{IsTailEnd}
use Rattle.joint_paths.proofs.InOrder.{end_all}
use Rattle.law_lemmas.proofs.EachOne.{each_more}
use Rattle.law_lemmas.proofs.Lists.{got_read}
use Rattle.joint_paths.proofs.tail_classes.ends_in_order.Goals as goal

pub loop-from-preserved : goal.loop-from-preserved
loop-from-preserved c =
    let cs = c.args.classes.now in
    let es = c.loop-from.ends.items in
    let p = c.past_end-to.ensures in
    let past = p.past in
    record {
      within = p.within;
      each = subst (Each (IsTailEnd cs)) (sym c.in_ok-push.ensures.items) (each_more (IsTailEnd cs) es _ c.loop-from.invariant.each (record { range = record { in_turn = omega (arith, past); within = p.within }; each = p.beside _ (got_read cs c.loop-from.from _ c.loop-from-test.true) }));
      all = subst (λ (ds : List TailEnd). (n : ℕ) → n < c.past_end-to.result → (d : TailEnd) × IsIn d ds × (d.from ≤ n) × (n < d.to)) (sym c.in_ok-push.ensures.items) (end_all cs es _ c.loop-from.invariant.all);
    }

pub returns : goal.returns
returns c = record { each = c.loop-from.invariant.each; all = λ n lt. c.loop-from.invariant.all n (let l = c.loop-from-test.false in omega (arith, lt, l)) }
