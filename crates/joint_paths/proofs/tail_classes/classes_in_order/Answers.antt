use Rattle.std.proofs.Common.{ℕ, ◌<◌, ◌≤◌, sym, subst, List, arith}
use Rattle.fare_law.specs.Lists.{Each, IsIn}
use Rattle.joint_paths.specs.declared.tail_classes.TailClass.{TailClass}
use Rattle.joint_paths.specs.Ordered.{IsClassInOrder}
use Rattle.joint_paths.proofs.InOrder.{class_all, class_each, class_of}
use Rattle.law_lemmas.proofs.Lists.{got_read}
use Rattle.joint_paths.proofs.tail_classes.classes_in_order.Goals as goal

pub loop-from-preserved : goal.loop-from-preserved
loop-from-preserved c =
    let os = c.args.ordered.now in
    let cs = c.loop-from.classes.items in
    let p = c.past_class-to.ensures in
    let one = c.class-class.result in
    let k = c.class-class.ensures in
    record {
      within = p.within;
      each = subst (Each (IsClassInOrder os)) (sym c.in_ok-push.ensures.items) (class_each os cs one c.loop-from.invariant.each (class_of os one _ c.loop-from.from c.past_class-to.result k.after k.end k.last k.from k.to p.past p.within (p.beside _ (got_read os c.loop-from.from _ c.loop-from-test.true))));
      all = subst (λ (ds : List TailClass). (n : ℕ) → n < c.past_class-to.result → (d : TailClass) × IsIn d ds × (d.from ≤ n) × (n < d.to)) (sym c.in_ok-push.ensures.items)
          (λ n lt. class_all os cs one (λ m less. c.loop-from.invariant.all m (subst (λ x. m < x) k.from less)) n (subst (λ x. n < x) (sym k.to) lt));
    }

pub returns : goal.returns
returns c = record { each = c.loop-from.invariant.each; all = λ n lt. c.loop-from.invariant.all n (let l = c.loop-from-test.false in omega (arith, lt, l)) }
