-- Lists of offers that ascend by place: one list has certain offers, and equal keys have the same.
use Rattle.std.proofs.Common.{◌≡◌, ℕ, List, [], ◌∷◌, slice_get, Some, inl, inr, refl, sym, ap, subst, ◌∙◌, arith}
use Rattle.fare_law.specs.declared.market.OfferKey.{OfferKey}
use Rattle.fare_law.specs.declared.sheets.Leg.{Leg}
use Rattle.fare_law.specs.Lists.{Each, EachPair, IsIn}
use Rattle.fare_law.specs.Offers.{IsOffer, IsOffered, flights_of, row_price}
use Rattle.fare_law.specs.Sheets.{Sheet}
use Rattle.fare_component.specs.declared.offer.Offer.{Offer}
use Rattle.fare_component.specs.declared.offer.OfferRows.{OfferRows}
use Rattle.fare_component.specs.Keys.{asked}
use Rattle.fare_component.specs.Offers.{HasNoOffers, HasOneList, OffersNothing, SameOffers, StandsBefore}
use Rattle.law_lemmas.proofs.EachOne.{each_in, each_weaker}

-- all further offers stand behind the first
behind : (x : Offer) (xs : List Offer) → EachPair StandsBefore (x ∷ xs) → Each (StandsBefore x) xs
behind x [] h = tt
behind x (y ∷ ys) h = (h.0, each_weaker (StandsBefore y) (StandsBefore x) (λ z less. omega arith) ys (behind y ys h.1))

rest_ascends : (x : Offer) (xs : List Offer) → EachPair StandsBefore (x ∷ xs) → EachPair StandsBefore xs
rest_ascends x [] h = tt
rest_ascends x (y ∷ ys) h = h.1

not_both : (x y : Offer) → StandsBefore x y → StandsBefore y x → ⊥
not_both x y p q = omega arith

heads_same : (x y : Offer) (xs ys : List Offer) → EachPair StandsBefore (x ∷ xs) → EachPair StandsBefore (y ∷ ys) → IsIn x (y ∷ ys) → IsIn y (x ∷ xs) → x ≡ y
heads_same x y xs ys p q (inl e) j = e
heads_same x y xs ys p q (inr i) (inl e) = sym e
heads_same x y xs ys p q (inr i) (inr j) = absurd (not_both x y (each_in (StandsBefore x) xs y (behind x xs p) j) (each_in (StandsBefore y) ys x (behind y ys q) i))

in_rest : (o x y : Offer) (ys : List Offer) → x ≡ y → StandsBefore x o → IsIn o (y ∷ ys) → IsIn o ys
in_rest o x y ys e less (inl i) = absurd (let same : o.place ≡ x.place = ap (λ z. z.place) (i ∙ sym e) in omega arith)
in_rest o x y ys e less (inr i) = i

same_members : (xs ys : List Offer) → EachPair StandsBefore xs → EachPair StandsBefore ys → ((o : Offer) → IsIn o xs → IsIn o ys) → ((o : Offer) → IsIn o ys → IsIn o xs) → xs ≡ ys
same_members [] [] p q f g = refl
same_members [] (y ∷ ys) p q f g = absurd (g y (inl refl))
same_members (x ∷ xs) [] p q f g = absurd (f x (inl refl))
same_members (x ∷ xs) (y ∷ ys) p q f g =
    let e : x ≡ y = heads_same x y xs ys p q (f x (inl refl)) (g y (inl refl)) in
    let rest : xs ≡ ys = same_members xs ys (rest_ascends x xs p) (rest_ascends y ys q) (λ o i. in_rest o x y ys e (each_in (StandsBefore x) xs o (behind x xs p) i) (f o (inr i))) (λ o i. in_rest o y x xs (sym e) (each_in (StandsBefore y) ys o (behind y ys q) i) (g o (inr i))) in
    cc

pub one_list : (key : OfferKey) → HasOneList key
one_list key one other p q =
    ap {B = OfferRows} (λ (r : List Offer). record { rows = r })
    (same_members one.rows other.rows p.ascending q.ascending (λ o i. (q.exact o).1 ((p.exact o).0 i)) (λ o i. (p.exact o).1 ((q.exact o).0 i)))

offer_moved : (one other : OfferKey) → asked one ≡ asked other → (place price : ℕ) → IsOffer one place price → IsOffer other place price
offer_moved one other e place price h = record {
  row = h.row;
  stands = subst (λ (s : Sheet). slice_get s.rows place ≡ Some h.row) (ap (λ a. a.sheet) e) h.stands;
  offered = subst (λ (l : List Leg). IsOffered l h.row) (ap (λ a. a.legs) e) h.offered;
  costs = subst (λ (l : List Leg). price ≡ row_price (flights_of l) h.row) (ap (λ a. a.legs) e) h.costs;
}

pub same_offers : (one other : OfferKey) → SameOffers one other
same_offers one other e offers h = record {
  ascending = h.ascending;
  exact = λ o. (λ i. offer_moved one other e o.place o.price ((h.exact o).0 i), λ i. (h.exact o).1 (offer_moved other one (sym e) o.place o.price i));
}

pub no_offers : (key : OfferKey) → OffersNothing key → HasNoOffers (asked key)
no_offers key none other e place price h = none place price (offer_moved other key e place price h)
