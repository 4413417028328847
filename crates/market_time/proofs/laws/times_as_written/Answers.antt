use Rattle.market_time.proofs.ClockLemmas.{minutes_written}
use Rattle.market_time.proofs.laws.times_as_written.Goals as goal

pub returns : goal.returns
returns c = minutes_written
