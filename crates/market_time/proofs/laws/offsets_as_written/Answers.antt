use Rattle.market_time.proofs.ClockLemmas.{offsets_written}
use Rattle.market_time.proofs.laws.offsets_as_written.Goals as goal

pub returns : goal.returns
returns c = offsets_written
