use Rattle.whole_case.proofs.OneCase.{one_verdict}
use Rattle.whole_case.proofs.laws.one_verdict_case.Goals as goal

pub returns : goal.returns
returns c = one_verdict c.one_asked_case.ensures
