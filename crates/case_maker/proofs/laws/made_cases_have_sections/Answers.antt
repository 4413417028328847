use Rattle.case_maker.proofs.MadeRead.{made_is_spelled}
use Rattle.case_maker.proofs.laws.made_cases_have_sections.Goals as goal

pub returns : goal.returns
returns c = made_is_spelled
