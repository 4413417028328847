use Rattle.whole_case.proofs.OneCase.{one_search}
use Rattle.whole_case.proofs.laws.one_search_case.Goals as goal

pub returns : goal.returns
returns c = one_search c.one_asked_case.ensures
