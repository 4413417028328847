use Rattle.std.proofs.Common.{◌⊎◌, inl, inr}
use Rattle.fare_component.specs.Keys.{Asked}
use Rattle.fare_component.specs.Offers.{HasNoOffers}
use Rattle.node_publish.specs.Homes.{Known, Published, StaysPublished}
use Rattle.node_publish.proofs.source.StoreSourceOfferSource.take.Goals as goal

-- what was settled before two calls is settled after them
twice : (before between after : Known) → StaysPublished before between → StaysPublished between after → (a : Asked) → HasNoOffers a ⊎ Published before a → HasNoOffers a ⊎ Published after a
twice before between after s t a (inl none) = inl none
twice before between after s t a (inr kept) = inr (t.each a (s.each a kept))

pub returns-in_err-kept-clause-stays : goal.returns-in_err-kept-clause-stays
returns-in_err-kept-clause-stays g c = twice _ _ _ c.find.ensures.stays c.keep.ensures.stays

pub returns-in-Here-clause-stays : goal.returns-in-Here-clause-stays
returns-in-Here-clause-stays g c = twice _ _ _ c.find.ensures.stays c.keep.ensures.stays

pub returns-clause-stays : goal.returns-clause-stays
returns-clause-stays g c = twice _ _ _ c.find.ensures.stays c.keep.ensures.stays
