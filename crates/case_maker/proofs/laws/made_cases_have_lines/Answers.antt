use Rattle.case_maker.proofs.WholeText.{text_of_lines}
use Rattle.case_maker.proofs.laws.made_cases_have_lines.Goals as goal

pub returns : goal.returns
returns c = λ seed size small. text_of_lines size small seed
