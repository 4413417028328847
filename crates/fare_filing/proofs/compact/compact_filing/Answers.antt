use Rattle.std.proofs.Common.{◌≤◌, List, Option, IfSome, length, subst}
use Rattle.fare_law.specs.declared.filings.Action.{Action}
use Rattle.fare_filing.specs.Compact.{Ended}
use Rattle.fare_law.specs.declared.limits.TheConstants.{MOST_ACTIONS}
use Rattle.fare_filing.proofs.ListLemmas.{filing_told}
use Rattle.fare_filing.proofs.compact.compact_filing.Goals as goal

pub returns-clause-filing : goal.returns-clause-filing
returns-clause-filing c =
    filing_told c.args.bytes.now c.in-Some.rest.now c.in-Some-2.actions
    (subst (λ (x : Option (List Action)). IfSome x (Ended c.in-Some.rest.now)) c.in-Some-2.is c.in_ok-actions.ensures.actions)
    (subst (λ (x : Option (List Action)). IfSome x (λ actions. length actions ≤ MOST_ACTIONS)) c.in-Some-2.is c.in_ok-actions.ensures.few) c.in-Ok.ensures.1 c.in-Some.ensures
