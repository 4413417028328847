use Rattle.fare_component.proofs.Building.{OffersBelow}
use Rattle.fare_component.proofs.list.offers.Given as goal

abbrev pub invariant-loop-place : goal.invariant-loop-place
invariant-loop-place l = OffersBelow l.key l.place l.rows
