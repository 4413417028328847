use Rattle.std.proofs.Common.{◌≡◌, take}
use Rattle.asked_keys.specs.Asking.{HasKeysSettled}
use Rattle.component_table.specs.Networks.{IsNetwork}
use Rattle.fare_component.specs.Keys.{Asked}
use Rattle.fare_law.specs.Lists.{Each}
use Rattle.asked_keys.proofs.settling.settle_keys.Given as goal

abbrev pub invariant-loop-residual : goal.invariant-loop-residual
invariant-loop-residual g l = record {
  network : IsNetwork l.book l.request l.network;
  settled : Each (HasKeysSettled l.book l.request (g.O.OfferSource.settled l.offers)) (take l.residual-index l.residuals);
  base : g.O.OfferSource.base l.offers ≡ g.O.OfferSource.base l.initial.offers;
  stays : (a : Asked) → g.O.OfferSource.settled l.initial.offers a → g.O.OfferSource.settled l.offers a;
}
