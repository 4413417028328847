use Rattle.std.proofs.Common.{List, sym, subst}
use Rattle.std.specs.List.Sorted.{IsPermutation}
use Rattle.joint_paths.specs.declared.tail_classes.OrderedTail.{OrderedTail}
use Rattle.joint_paths.specs.declared.tail_classes.TailClass.{TailClass}
use Rattle.joint_paths.specs.Ordered.{AreEndsInOrder}
use Rattle.joint_paths.proofs.tail_classes.classes_made.Goals as goal

pub returns : goal.returns
returns c = record {
  ordered = c.as_slice-ordered.result.now;
  order = subst (λ (os : List OrderedTail). IsPermutation c.args.tails.items os) (sym c.as_slice-ordered.ensures.value) c.sort_unstable_by_key.ensures.permutation;
  tails = c.in_ok-tails.ensures;
  classes = c.in_ok-classes.ensures;
  ends = subst (λ (cs : List TailClass). AreEndsInOrder cs c.in_ok-ends.ends.items) c.as_slice.ensures.value c.in_ok-ends.ensures;
}
