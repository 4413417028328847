use Rattle.fare_verdict.specs.Findings.{IsFinding}
use Rattle.fare_verdict.proofs.OneList.{one_list}
use Rattle.fare_verdict.proofs.laws.one_list_of_findings.Goals as goal

pub returns : goal.returns
returns c t b q findings others h k = one_list (IsFinding b q t) findings others h k
