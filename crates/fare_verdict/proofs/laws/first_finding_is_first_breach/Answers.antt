use Rattle.fare_verdict.proofs.FirstFindings.{first_is}
use Rattle.fare_verdict.proofs.laws.first_finding_is_first_breach.Goals as goal

pub returns : goal.returns
returns c t b q findings breach h first = first_is b q t (record { first_day = c.first_day_by_category.ensures; stay = c.stay_by_category.ensures }) breach first findings h
