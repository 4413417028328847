use Rattle.std.proofs.Common.{sym, subst}
use Rattle.std.proofs.lemmas.List.{take_all}
use Rattle.fare_law.specs.Lists.{IsIn}
use Rattle.component_table.specs.declared.landed.Landing.{Landing}
use Rattle.joint_paths.proofs.OpenFacts.{union_next}
use Rattle.component_table.proofs.landed.union_of.Goals as goal

pub loop-landing-preserved : goal.loop-landing-preserved
loop-landing-preserved c = union_next (λ (l : Landing). l.classes) c.args.landings.now c.loop-landing.landing-index _ c.loop-landing.classes c.loop-landing-test.true c.loop-landing.invariant

pub returns : goal.returns
returns c = λ l i. c.loop-landing.invariant l (subst (IsIn l) (sym (take_all c.loop-landing.landing-index c.args.landings.now c.loop-landing-test.false)) i)
