use Rattle.fare_rules.proofs.RangeLemmas.{rule_stays}
use Rattle.fare_rules.proofs.demanded.rules_stay_in_range.Goals as goal

pub returns : goal.returns
returns c = rule_stays
