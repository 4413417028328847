-- The case's lemmas.
use Rattle.worked_cases.proofs.Boundaries.{travel_first, travel_last}
use Rattle.worked_cases.proofs.categories.travel_dates.Goals as goal

pub returns-clause-first : goal.returns-clause-first
returns-clause-first c = travel_first

pub returns-clause-last : goal.returns-clause-last
returns-clause-last c = travel_last
