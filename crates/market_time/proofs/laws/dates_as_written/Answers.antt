use Rattle.market_time.proofs.TextLemmas.{WritesDay-spelled, day_spelled-WritesDay}
use Rattle.market_time.proofs.laws.dates_as_written.Goals as goal

pub returns : goal.returns
returns c = λ text day. (WritesDay-spelled text day, day_spelled-WritesDay text day)
