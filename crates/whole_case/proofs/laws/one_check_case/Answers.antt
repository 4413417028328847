use Rattle.whole_case.proofs.OneCase.{one_check}
use Rattle.whole_case.proofs.laws.one_check_case.Goals as goal

pub returns : goal.returns
returns c = one_check c.one_asked_case.ensures c.one_reading.ensures.certificate c.one_reading.ensures.none c.one_reading.ensures.fault
