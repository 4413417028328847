use Rattle.std.proofs.Common.{Some, subst, sym}
use Rattle.joint_paths.specs.Ruled.{TakesLeast}
use Rattle.joint_paths.proofs.RuledFacts.{takes_none, takes_some}
use Rattle.joint_paths.proofs.ruled_heads.with_charges.Goals as goal

pub returns-in-Some : goal.returns-in-Some
returns-in-Some c = subst (λ o. TakesLeast o c.args.least (Some c.lesser.result)) (sym c.in-Some.is) (takes_some c.in-Some.charges c.lesser.result c.args.least c.lesser.ensures.below c.lesser.ensures.least)

pub returns-in-None : goal.returns-in-None
returns-in-None c = subst (λ o. TakesLeast o c.args.least c.args.least) (sym c.in-None.is) (takes_none c.args.least)
