use Rattle.std.proofs.Common.{sym, subst}
use Rattle.std.proofs.lemmas.List.{take_all}
use Rattle.fare_law.specs.Lists.{IsIn}
use Rattle.joint_paths.specs.declared.fitting.FittingHead.{FittingHead}
use Rattle.fare_ends.proofs.BitFacts.{none_among}
use Rattle.joint_paths.proofs.OpenFacts.{union_least, union_next}
use Rattle.joint_paths.proofs.fitting.union_of.Goals as goal

pub loop-head-init : goal.loop-head-init
loop-head-init c = record { each = λ h i. absurd i; least = λ more k. none_among more }

pub loop-head-preserved : goal.loop-head-preserved
loop-head-preserved c = record {
  each = union_next (λ (h : FittingHead). h.classes) c.args.heads.now c.loop-head.head-index _ c.loop-head.classes c.loop-head-test.true c.loop-head.invariant.each;
  least = union_least (λ (h : FittingHead). h.classes) c.args.heads.now c.loop-head.head-index _ c.loop-head.classes c.loop-head-test.true c.loop-head.invariant.least;
}

pub returns-clause-each : goal.returns-clause-each
returns-clause-each c = λ h i. c.loop-head.invariant.each h (subst (IsIn h) (sym (take_all c.loop-head.head-index c.args.heads.now c.loop-head-test.false)) i)

pub returns-clause-least : goal.returns-clause-least
returns-clause-least c = λ more k. c.loop-head.invariant.least more (λ h i. k h (subst (IsIn h) (take_all c.loop-head.head-index c.args.heads.now c.loop-head-test.false) i))
