use Rattle.fare_component.proofs.Prices.{low_prices}
use Rattle.fare_component.proofs.laws.prices_are_low.Goals as goal

pub returns : goal.returns
returns c = low_prices c.limits_are_met.ensures.charged c.limits_are_met.ensures.surcharged
