use Rattle.fare_component.proofs.OneList.{one_list}
use Rattle.fare_component.proofs.laws.one_list.Goals as goal

pub returns : goal.returns
returns c = one_list
