use Rattle.fare_verdict.proofs.RuleTurns.{none_where_met}
use Rattle.fare_verdict.proofs.laws.lawful_without_findings.Goals as goal

pub returns : goal.returns
returns c t b q h = none_where_met b q t (record { first_day = c.first_day_by_category.ensures; stay = c.stay_by_category.ensures }) ((c.lawful_where_met.ensures t b q).0 h)
