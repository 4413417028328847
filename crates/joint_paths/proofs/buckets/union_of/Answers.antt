use Rattle.std.proofs.Common.{sym, subst}
use Rattle.std.proofs.lemmas.List.{take_all}
use Rattle.fare_law.specs.Lists.{IsIn}
use Rattle.joint_paths.specs.declared.crossing_heads.CrossingHead.{CrossingHead}
use Rattle.joint_paths.proofs.OpenFacts.{union_next}
use Rattle.joint_paths.proofs.buckets.union_of.Goals as goal

pub loop-head-preserved : goal.loop-head-preserved
loop-head-preserved c = union_next (λ (h : CrossingHead). h.classes) c.args.heads.now c.loop-head.head-index _ c.loop-head.classes c.loop-head-test.true c.loop-head.invariant

pub returns : goal.returns
returns c = λ h i. c.loop-head.invariant h (subst (IsIn h) (sym (take_all c.loop-head.head-index c.args.heads.now c.loop-head-test.false)) i)
