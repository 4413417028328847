use Rattle.market_time.proofs.TextLemmas.{IsInCentury-spelled}
use Rattle.market_time.proofs.laws.dates_in_century.Goals as goal

pub returns : goal.returns
returns c = IsInCentury-spelled
