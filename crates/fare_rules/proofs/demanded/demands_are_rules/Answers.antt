use Rattle.fare_rules.proofs.MeetingLemmas.{demands_rules}
use Rattle.fare_rules.proofs.demanded.demands_are_rules.Goals as goal

pub returns : goal.returns
returns c = demands_rules
