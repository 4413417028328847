use Rattle.search_steps.proofs.Bridge.{least_is}
use Rattle.search_steps.proofs.laws.least_prices_are_least.Goals as goal

pub returns : goal.returns
returns c = least_is
