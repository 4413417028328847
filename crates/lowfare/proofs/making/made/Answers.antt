use Rattle.std.proofs.Common.{IfOk, subst, sym}
use Rattle.lowfare.specs.Made.{MakesCase}
use Rattle.lowfare.proofs.making.made.Goals as goal

-- the summary is asked for
pub returns-then-is_summary-clause-makes : goal.returns-then-is_summary-clause-makes
returns-then-is_summary-clause-makes c = subst (λ b. IfOk c.summarized.result (λ o. MakesCase c.args.seed c.args.size b o.status o.text)) (sym c.if-is_summary.true) c.summarized.ensures.makes
