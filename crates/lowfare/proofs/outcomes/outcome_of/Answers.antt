use Rattle.std.proofs.Common.{IfOk, subst, sym}
use Rattle.lowfare.specs.Makes.{Makes}
use Rattle.lowfare.proofs.outcomes.outcome_of.Goals as goal

-- a case is made without input
pub returns-in-Make-clause-makes : goal.returns-in-Make-clause-makes
returns-in-Make-clause-makes c = subst (λ x. IfOk c.made.result (λ o. Makes x c.args.bytes o.status o.text)) (sym c.in-Make.is) c.made.ensures.makes
