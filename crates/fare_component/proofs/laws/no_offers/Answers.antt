use Rattle.fare_component.proofs.OneList.{no_offers}
use Rattle.fare_component.proofs.laws.no_offers.Goals as goal

pub returns : goal.returns
returns c = no_offers
