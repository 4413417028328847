use Rattle.case_maker.proofs.ShortCase.{made_case_fits}
use Rattle.case_maker.proofs.laws.made_cases_are_short.Goals as goal

pub returns : goal.returns
returns c = made_case_fits
