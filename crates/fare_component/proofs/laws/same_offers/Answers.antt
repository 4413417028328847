use Rattle.fare_component.proofs.OneList.{same_offers}
use Rattle.fare_component.proofs.laws.same_offers.Goals as goal

pub returns : goal.returns
returns c = same_offers
