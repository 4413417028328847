use Rattle.case_maker.proofs.CaseTaken.{never_refused}
use Rattle.case_maker.proofs.taking.made_cases_are_taken.Goals as goal

pub returns : goal.returns
returns c = never_refused c.names_read_again.ensures
