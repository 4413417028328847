use Rattle.answer_text.proofs.OneText.{answer_once}
use Rattle.answer_text.proofs.laws.one_answer_text.Goals as goal

pub returns : goal.returns
returns c = answer_once c.one_date_text.ensures
