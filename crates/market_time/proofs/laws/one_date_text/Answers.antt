use Rattle.market_time.proofs.TextLemmas.{day_spelled_once}
use Rattle.market_time.proofs.laws.one_date_text.Goals as goal

pub returns : goal.returns
returns c = day_spelled_once
