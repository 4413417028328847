-- The case's lemmas.
use Rattle.worked_cases.proofs.Boundaries.{stay_alone}
use Rattle.worked_cases.proofs.categories.longest_stays.Goals as goal

pub returns-clause-one_way : goal.returns-clause-one_way
returns-clause-one_way c = stay_alone
