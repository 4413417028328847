use Rattle.std.proofs.Common.{◌≡◌, take}
use Rattle.component_table.specs.Networks.{IsNetwork}
use Rattle.fare_component.specs.Keys.{Asked, asked}
use Rattle.fare_law.specs.declared.market.OfferKey.{OfferKey}
use Rattle.fare_law.specs.Lists.{IsIn, OnFirst}
use Rattle.residual_keys.specs.AskedKeys.{KeyOf}
use Rattle.asked_keys.proofs.settling.take_all.Given as goal

abbrev pub invariant-loop-number : goal.invariant-loop-number
invariant-loop-number g l = record {
  network : IsNetwork l.book l.request l.network;
  base : g.O.OfferSource.base l.offers ≡ g.O.OfferSource.base l.initial.offers;
  stays : (a : Asked) → g.O.OfferSource.settled l.initial.offers a → g.O.OfferSource.settled l.offers a;
  settled : (key : OfferKey) (k : KeyOf l.book l.request l.residual key) → OnFirst (λ m. IsIn m (take l.number-index l.number-items)) k.numbers → g.O.OfferSource.settled l.offers (asked key);
}
