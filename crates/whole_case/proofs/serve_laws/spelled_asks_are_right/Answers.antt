use Rattle.whole_case.proofs.OneServe.{asks_right}
use Rattle.whole_case.proofs.serve_laws.spelled_asks_are_right.Goals as goal

pub returns : goal.returns
returns c = asks_right
