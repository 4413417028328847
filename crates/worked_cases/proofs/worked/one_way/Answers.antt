-- The case's lemmas.
use Rattle.std.proofs.Common.{refl}
use Rattle.worked_cases.proofs.Trips.{one_way_lawful, one_way_costs}
use Rattle.worked_cases.proofs.worked.one_way.Goals as goal

pub returns-clause-lawful : goal.returns-clause-lawful
returns-clause-lawful c = one_way_lawful c.label_laws.ensures

pub returns-clause-costs : goal.returns-clause-costs
returns-clause-costs c = one_way_costs

pub returns-clause-coded : goal.returns-clause-coded
returns-clause-coded c = refl
