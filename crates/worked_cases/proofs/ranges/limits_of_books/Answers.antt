-- The cases' lemmas.
use Rattle.worked_cases.proofs.Within.{boston_keeps, circle_keeps, far_keeps, inner_keeps, one_way_keeps, paris_keeps, round_keeps}
use Rattle.worked_cases.proofs.ranges.limits_of_books.Goals as goal

pub returns-clause-one_way : goal.returns-clause-one_way
returns-clause-one_way c = one_way_keeps

pub returns-clause-round_trip : goal.returns-clause-round_trip
returns-clause-round_trip c = round_keeps

pub returns-clause-circle : goal.returns-clause-circle
returns-clause-circle c = circle_keeps

pub returns-clause-boston : goal.returns-clause-boston
returns-clause-boston c = boston_keeps

pub returns-clause-paris : goal.returns-clause-paris
returns-clause-paris c = paris_keeps

pub returns-clause-far : goal.returns-clause-far
returns-clause-far c = far_keeps

pub returns-clause-inner : goal.returns-clause-inner
returns-clause-inner c = inner_keeps
