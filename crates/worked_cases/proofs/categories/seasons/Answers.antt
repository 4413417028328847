-- The case's lemmas.
use Rattle.worked_cases.proofs.Boundaries.{season_first, season_last, season_second}
use Rattle.worked_cases.proofs.categories.seasons.Goals as goal

pub returns-clause-first : goal.returns-clause-first
returns-clause-first c = season_first

pub returns-clause-last : goal.returns-clause-last
returns-clause-last c = season_last

pub returns-clause-second : goal.returns-clause-second
returns-clause-second c = season_second
