-- The offers of a key, as a list.
use Rattle.std.specs.Prelude.{◌≡◌, ◌↔◌, ◌<◌, ◌≤◌, ℕ}
use Rattle.fare_law.specs.declared.market.OfferKey.{OfferKey}
use Rattle.fare_law.specs.Lists.{EachPair, IsIn}
use Rattle.fare_law.specs.Offers.{IsOffer}
use Rattle.fare_component.specs.declared.offer.Offer.{Offer}
use Rattle.fare_component.specs.declared.offer.OfferRows.{OfferRows}
use Rattle.fare_component.specs.Keys.{Asked, IsKey, asked}

abbrev pub StandsBefore : Offer → Offer → Type 0
StandsBefore one other = one.place < other.place

-- Ascending by place, and an offer stands there exactly where the sheet's row at its place is offered at its price.
pub record AreOffers (key : OfferKey) (offers : OfferRows) : Type 0 where
  pub ascending : EachPair StandsBefore offers.rows
  pub exact : (offer : Offer) → IsIn offer offers.rows ↔ IsOffer key offer.place offer.price

-- a key has one list of offers
abbrev pub HasOneList : OfferKey → Type 0
HasOneList key = (one other : OfferRows) → AreOffers key one → AreOffers key other → one ≡ other

-- keys that ask for the same have the same offers
abbrev pub SameOffers : OfferKey → OfferKey → Type 0
SameOffers one other = asked one ≡ asked other → (offers : OfferRows) → AreOffers one offers → AreOffers other offers

-- no price is above the greatest amount with the greatest charges
abbrev pub HasLowPrices : OfferKey → Type 0
HasLowPrices key = IsKey key → (place price : ℕ) → IsOffer key place price → price ≤ 1035000000

-- the key has no offer
abbrev pub OffersNothing : OfferKey → Type 0
OffersNothing key = (place price : ℕ) → IsOffer key place price → ⊥

-- no key that asks for this has an offer
abbrev pub HasNoOffers : Asked → Type 0
HasNoOffers a = (key : OfferKey) → asked key ≡ a → OffersNothing key
