use Rattle.std.proofs.Common.{◌≡◌, take}
use Rattle.component_table.specs.Networks.{IsNetwork}
use Rattle.fare_component.specs.Keys.{Asked, asked}
use Rattle.residual_keys.proofs.PathByPath.{HoldsOn}
use Rattle.asked_keys.proofs.settling.take_keys.Given as goal

abbrev pub invariant-loop-path : goal.invariant-loop-path
invariant-loop-path g l = record {
  network : IsNetwork l.book l.request l.network;
  base : g.O.OfferSource.base l.offers ≡ g.O.OfferSource.base l.initial.offers;
  stays : (a : Asked) → g.O.OfferSource.settled l.initial.offers a → g.O.OfferSource.settled l.offers a;
  settled : HoldsOn l.book l.request l.residual (λ key. g.O.OfferSource.settled l.offers (asked key)) (take l.path-index l.path-items);
}
