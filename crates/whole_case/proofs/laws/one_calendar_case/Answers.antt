use Rattle.whole_case.proofs.OneCase.{one_calendar}
use Rattle.whole_case.proofs.laws.one_calendar_case.Goals as goal

pub returns : goal.returns
returns c = one_calendar c.one_asked_case.ensures
