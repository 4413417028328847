-- The case's lemmas.
use Rattle.worked_cases.proofs.Others.{three_nested, three_straddle, two_straddle, from_one, no_gap}
use Rattle.worked_cases.proofs.worked.labels.Goals as goal

pub returns-clause-three : goal.returns-clause-three
returns-clause-three c = three_straddle

pub returns-clause-two : goal.returns-clause-two
returns-clause-two c = (two_straddle c.label_laws.ensures).1

pub returns-clause-numbered : goal.returns-clause-numbered
returns-clause-numbered c = (two_straddle c.label_laws.ensures).0

pub returns-clause-from_one : goal.returns-clause-from_one
returns-clause-from_one c = from_one

pub returns-clause-no_gap : goal.returns-clause-no_gap
returns-clause-no_gap c = no_gap

pub returns-clause-nested : goal.returns-clause-nested
returns-clause-nested c = three_nested
