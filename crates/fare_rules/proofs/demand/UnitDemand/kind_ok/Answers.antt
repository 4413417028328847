use Rattle.fare_rules.proofs.KindLemmas.{masked}
use Rattle.fare_rules.proofs.demand.UnitDemand.kind_ok.Goals as goal

pub returns : goal.returns
returns c = rw c.kind_number.ensures (masked c.args.self.now.kinds c.args.kind)
