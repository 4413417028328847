use Rattle.std.proofs.Common.{◌≡◌, [], take}
use Rattle.fare_component.specs.Keys.{Asked, asked}
use Rattle.residual_keys.specs.Gathered.{Adds}
use Rattle.residual_keys.proofs.PathByPath.{HoldsOn, OnPaths}
use Rattle.residual_keys.proofs.choosing.gathered.Given as goal

abbrev pub invariant-loop-path : goal.invariant-loop-path
invariant-loop-path g l = record {
  moves : Adds (OnPaths l.book l.request l.residual (take l.path-index l.path-items)) [] l.found;
  base : g.O.OfferSource.base l.offers ≡ g.O.OfferSource.base l.initial.offers;
  stays : (a : Asked) → g.O.OfferSource.settled l.initial.offers a → g.O.OfferSource.settled l.offers a;
  asked : HoldsOn l.book l.request l.residual (λ key. g.O.OfferSource.settled l.offers (asked key)) (take l.path-index l.path-items);
}
