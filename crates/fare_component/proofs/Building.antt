-- The list of offers, as far as the loop over the rows has come.
use Rattle.std.proofs.Common.{◌≡◌, ◌↔◌, ℕ, ◌+◌, ◌<◌, ◌≤◌, List, [], ◌∷◌, ◌++◌, length, slice_get, Some, ⊎_elim, sym, ap, subst, ◌∙◌, arith}
use Rattle.fare_law.specs.declared.market.OfferKey.{OfferKey}
use Rattle.fare_law.specs.declared.sheets.SheetRow.{SheetRow}
use Rattle.fare_law.specs.Lists.{Each, EachPair, IsIn}
use Rattle.fare_law.specs.Offers.{IsOffer, IsOffered, flights_of, row_price}
use Rattle.fare_component.specs.declared.offer.Offer.{Offer}
use Rattle.fare_component.specs.Offers.{AreOffers, StandsBefore}
use Rattle.fare_component.proofs.Listed.{in_push, in_front, in_last}
use Rattle.law_lemmas.proofs.EachOne.{each_in, each_more, each_weaker}
use Rattle.law_lemmas.proofs.Lists.{got_within}
use Rattle.law_lemmas.proofs.Numbers.{here_or_before}

-- the offers at the first n places
pub record OffersBelow (key : OfferKey) (n : ℕ) (rows : List Offer) : Type 0 where
  pub ascending : EachPair StandsBefore rows
  pub below : Each (λ o. o.place < n) rows
  pub exact : (o : Offer) → o.place < n → IsIn o rows ↔ IsOffer key o.place o.price

pub below_none : (key : OfferKey) → OffersBelow key 0 []
below_none key = record { ascending = tt; below = tt; exact = λ o less. absurd (omega arith) }

wider : (n : ℕ) (rows : List Offer) → Each (λ o. o.place < n) rows → Each (λ o. o.place < n + 1) rows
wider n rows h = each_weaker (λ o. o.place < n) (λ o. o.place < n + 1) (λ o less. omega arith) rows h

pub below_skip : (key : OfferKey) (n : ℕ) (rows : List Offer) → OffersBelow key n rows → ((price : ℕ) → IsOffer key n price → ⊥) → OffersBelow key (n + 1) rows
below_skip key n rows h none = record {
  ascending = h.ascending;
  below = wider n rows h.below;
  exact = λ o less. ⊎_elim (λ (before : o.place < n). h.exact o before)
      (λ (here : o.place ≡ n). (λ i. absurd (let before = each_in (λ (x : Offer). x.place < n) rows o h.below i in omega arith), λ offer. absurd (none o.price (subst (λ p. IsOffer key p o.price) here offer))))
      (here_or_before o.place n less);
}

ascending_push : (xs : List Offer) (o : Offer) → EachPair StandsBefore xs → Each (λ x. x.place < o.place) xs → EachPair StandsBefore (xs ++ o ∷ [])
ascending_push [] o h below = tt
ascending_push (x ∷ []) o h below = (below.0, tt)
ascending_push (x ∷ y ∷ ys) o h below = (h.0, ascending_push (y ∷ ys) o h.1 below.1)

-- one row stands at a place, so one price does
same_offer : (key : OfferKey) (n price : ℕ) (row : SheetRow) → slice_get key.sheet.value.rows n ≡ Some row → price ≡ row_price (flights_of key.legs) row → (o : Offer) → o.place ≡ n → IsOffer key n o.price → o ≡ record { place = n; price = price }
same_offer key n price row stands costs o here offer =
    let row_is : offer.row ≡ row = cc (offer.stands, stands) in
    let price_is : o.price ≡ price = offer.costs ∙ ap (row_price (flights_of key.legs)) row_is ∙ sym costs in
    let e : ◌≡◌ {A = Offer} (record { place = o.place; price = o.price }) (record { place = n; price = price }) = cc in e

pub below_push : (key : OfferKey) (n price : ℕ) (rows : List Offer) (row : SheetRow) → OffersBelow key n rows → slice_get key.sheet.value.rows n ≡ Some row → IsOffered key.legs row → price ≡ row_price (flights_of key.legs) row
    → OffersBelow key (n + 1) (rows ++ record { place = n; price = price } ∷ [])
below_push key n price rows row h stands offered costs =
    let new : Offer = record { place = n; price = price } in
    let is_offer : IsOffer key n price = record { row = row; stands = stands; offered = offered; costs = costs } in
    record {
      ascending = ascending_push rows new h.ascending h.below;
      below = each_more (λ o. o.place < n + 1) rows new (wider n rows h.below) (omega arith);
      exact = λ o less. (
        λ i. ⊎_elim (λ (old : IsIn o rows). (h.exact o (each_in (λ (x : Offer). x.place < n) rows o h.below old)).0 old) (λ (e : o ≡ new). subst (λ (x : Offer). IsOffer key x.place x.price) (sym e) is_offer) (in_push rows new o i),
        λ offer. ⊎_elim (λ (before : o.place < n). in_front rows new o ((h.exact o before).1 offer)) (λ (here : o.place ≡ n). in_last rows new o (same_offer key n price row stands costs o here (subst (λ p. IsOffer key p o.price) here offer))) (here_or_before o.place n less),
      );
    }

pub below_all : (key : OfferKey) (n : ℕ) (rows : List Offer) → length key.sheet.value.rows ≤ n → OffersBelow key n rows → AreOffers key (record { rows = rows })
below_all key n rows all h = record {
  ascending = h.ascending;
  exact = λ o. (
    λ i. (h.exact o (each_in (λ (x : Offer). x.place < n) rows o h.below i)).0 i,
    λ offer. (h.exact o (let within = got_within key.sheet.value.rows o.place offer.row offer.stands in omega arith)).1 offer,
  );
}
