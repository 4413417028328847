-- The case's lemmas.
use Rattle.worked_cases.proofs.Boundaries.{kept_out, not_let_in, other_carrier, one_alone}
use Rattle.worked_cases.proofs.categories.listed_flights.Goals as goal

pub returns-clause-kept_out : goal.returns-clause-kept_out
returns-clause-kept_out c = kept_out

pub returns-clause-not_let_in : goal.returns-clause-not_let_in
returns-clause-not_let_in c = not_let_in

pub returns-clause-other_carrier : goal.returns-clause-other_carrier
returns-clause-other_carrier c = other_carrier

pub returns-clause-one_alone : goal.returns-clause-one_alone
returns-clause-one_alone c = one_alone
