-- Where no group of a market has an offered fare, no key of the flights and the market's sheet has an offer.
use Rattle.std.proofs.Common.{◌≡◌, ◌≢◌, ◌⊎◌, ◌↔◌, ℕ, ◌+◌, ◌<◌, ◌≤◌, Bool, true, false, List, [], ◌∷◌, length, take, get_or, All, IsBitSet, slice_get, Option, Some, None, is_some, IfNone, MatchOption, MatchBool, sym, ap, subst, ◌∙◌, inl, inr, arith}
use Rattle.std.proofs.lemmas.List.Elements.{All-head}
use Rattle.fare_ends.specs.declared.markets.Market.{Market}
use Rattle.fare_ends.specs.Markets.{IsMarket}
use Rattle.fare_book.specs.Keeping.{Limited}
use Rattle.fare_groups.specs.declared.group.FareGroup.{FareGroup}
use Rattle.fare_groups.specs.declared.group.GroupedFare.{GroupedFare}
use Rattle.fare_groups.specs.Grouping.{Cheapest, IsRowIn, fare_at}
use Rattle.fare_groups.specs.Groups.{HasClass, Permits, group_of}
use Rattle.fare_groups.proofs.ByGroup.{offered_by_group, one_rule_all}
use Rattle.fare_groups.proofs.OneGroup.{each_stands_once, fares_are_rows}
use Rattle.fare_law.specs.declared.flights.Flight.{Flight}
use Rattle.fare_law.specs.declared.names.Carrier.{Carrier}
use Rattle.fare_law.specs.declared.requests.Request.{Request}
use Rattle.fare_law.specs.declared.rules.TransferRule.{TransferRule}
use Rattle.fare_law.specs.declared.sheets.Leg.{Leg}
use Rattle.fare_law.specs.declared.sheets.SheetRow.{SheetRow}
use Rattle.fare_law.specs.Book.{Book}
use Rattle.fare_law.specs.Lists.{IsIn, Less, OnFirst}
use Rattle.fare_law.specs.Offers.{IsOffered, flights_of}
use Rattle.fare_law.specs.Parts.{TransfersHold, transfers}
use Rattle.fare_law.specs.RuleLimits.{IsRule}
use Rattle.fare_law.specs.Sheets.{IsLiveRow, Sheet}
use Rattle.residual_keys.specs.Gathered.{AreLegs}
use Rattle.residual_keys.proofs.Markets.{legs_one}
use Rattle.residual_keys.proofs.Sheeted.{sheet_one}
use Rattle.asked_keys.specs.Offering.{NoneOffered, OffersNone}
use Rattle.law_lemmas.proofs.EachOne.{each_in}
use Rattle.law_lemmas.proofs.Lists.{front_read}
use Rattle.law_lemmas.proofs.Members.{got_in, in_either, in_one}
use Rattle.law_lemmas.proofs.Options.{some_one}

first_of_all : (P : Flight → Type 0) (f : Flight) (fs : List Flight) → OnFirst (λ x. f ≡ x) fs → All P fs → P f
first_of_all P f [] first h = absurd first
first_of_all P f (g ∷ fs) first h = subst P (sym first) (All-head P g fs h)

on_the_first : (P : Flight → Type 0) (f : Flight) (fs : List Flight) → OnFirst (λ x. f ≡ x) fs → OnFirst P fs → P f
on_the_first P f [] first h = absurd first
on_the_first P f (g ∷ fs) first h = subst P (sym first) h

-- category 9 asks in every form that the fare's carrier is the first flight's
first_carrier : (carrier : Carrier) (f : Flight) (fs : List Flight) → OnFirst (λ x. f ≡ x) fs → (o : Option TransferRule)
    → MatchOption o (OnFirst (λ x. x.carrier ≡ carrier) fs) (λ c. (transfers fs ≤ c.max) × MatchBool c.online (All (λ x. x.carrier ≡ carrier) fs) (OnFirst (λ x. x.carrier ≡ carrier) fs)) → f.carrier ≡ carrier
first_carrier carrier f fs first None h = on_the_first (λ x. x.carrier ≡ carrier) f fs first h
first_carrier carrier f fs first (Some c) h = by_form c.online h.1
  where
    by_form : (t : Bool) → MatchBool t (All (λ x. x.carrier ≡ carrier) fs) (OnFirst (λ x. x.carrier ≡ carrier) fs) → f.carrier ≡ carrier
    by_form true k = first_of_all (λ x. x.carrier ≡ carrier) f fs first k
    by_form false k = on_the_first (λ x. x.carrier ≡ carrier) f fs first k

module _ (b : Book) (fs : List Flight) (legs : List Leg) (m : Market) (g : FareGroup) (market : IsMarket b m) (limited : Limited b) (i : IsIn g m.groups) where
  live_of : (row : SheetRow) → IsIn row m.sheet.value.rows → IsLiveRow b m.sheet.value.from m.sheet.value.to row
  live_of row j = (market.sheet.live row).0 j

  class_low : (row : SheetRow) → IsIn row m.sheet.value.rows → row.fare.class ≤ 25
  class_low row j = (limited.fares row.fare.key row.fare (live_of row j).fare).1.class

  pub rule_within : (row : SheetRow) → IsRowIn m.sheet.value.rows g row → IsRule row.rule
  rule_within row r = limited.rules row.fare.key.carrier row.fare.rule row.rule (live_of row r.within).rule

  -- a row that stands in the group has its key
  key_of : (n : ℕ) (row : SheetRow) → slice_get m.sheet.value.rows n ≡ Some row → IsIn (fare_at n row) g.fares → group_of row ≡ g.key
  key_of n row stands j =
      let x = fares_are_rows m.sheet.value.rows m.groups market.groups g i (fare_at n row) j in
      subst (λ (r : SheetRow). group_of r ≡ g.key) (some_one (slice_get m.sheet.value.rows n) x.row row x.stands stands) x.key_is

  -- the group's carrier isn't the first flight's
  pub none_first : flights_of legs ≡ fs → (f : Flight) → OnFirst (λ x. f ≡ x) fs → g.key.carrier ≢ f.carrier → NoneOffered m.sheet.value.rows legs g
  none_first over f first other n row stands j o =
      let own : TransfersHold row.rule row.fare.key.carrier fs = subst (TransfersHold row.rule row.fare.key.carrier) over o.transfers in
      let same = first_carrier row.fare.key.carrier f fs first row.rule.cat9 own in
      other (sym (same ∙ ap (λ k. k.carrier) (key_of n row stands j)))

  -- no fare of the group is in an open class
  pub none_open : (classes : ℕ) → ((class : ℕ) → class < 32 → IsBitSet classes class ↔ HasClass class legs) → Cheapest classes g.fares None → NoneOffered m.sheet.value.rows legs g
  none_open classes are none n row stands j o =
      let low = class_low row (got_in m.sheet.value.rows n row stands) in
      each_in (λ (f : GroupedFare). IsBitSet classes f.class → ⊥) g.fares (fare_at n row) none j ((are row.fare.class (omega (arith, low))).1 o.seats)

  -- its rule does not permit the flights
  pub none_permitted : flights_of legs ≡ fs → (first : SheetRow) → IsRowIn m.sheet.value.rows g first → (Permits first.rule g.key.carrier fs → ⊥) → NoneOffered m.sheet.value.rows legs g
  none_permitted over first of none n row stands j o =
      let key = key_of n row stands j in
      let rule = one_rule_all b m.sheet.value.from m.sheet.value.to m.sheet.value market.sheet row first (got_in m.sheet.value.rows n row stands) of.within (key ∙ sym of.key) in
      let permits = ((offered_by_group g.key first.rule legs row key rule o.direction).0 o).0 in
      none (subst (Permits first.rule g.key.carrier) over permits)

-- no group of these has a fare that is offered on the legs
abbrev pub NoneOfAll : List SheetRow → List Leg → List FareGroup → Type 0
NoneOfAll rows legs gs = (g : FareGroup) → IsIn g gs → NoneOffered rows legs g

-- nor of one group more
pub none_more : (rows : List SheetRow) (legs : List Leg) (gs : List FareGroup) (i : ℕ) (d g : FareGroup) → i < length gs → g ≡ get_or gs i d → NoneOfAll rows legs (take i gs) → NoneOffered rows legs g → NoneOfAll rows legs (take (i + 1) gs)
none_more rows legs gs i d g lt e h one x j = elim (in_either x (take i gs) (g ∷ []) (subst (IsIn x) (front_read gs i d g lt e) j)) [ inl k ↦ h x k | inr k ↦ subst (NoneOffered rows legs) (sym (in_one x g k)) one ]

pub cheapest_none : (classes : ℕ) (fares : List GroupedFare) (o : Option ℕ) → is_some o ≡ false → Cheapest classes fares o → Cheapest classes fares None
cheapest_none classes fares None e h = h
cheapest_none classes fares (Some n) e h = absurd (cc)

pub none_when : {X : Type 0} (o : Option X) (P : Type 0) → is_some o ≡ false → IfNone o P → P
none_when None P e h = h
none_when (Some x) P e h = absurd (cc)

module _ (never : (w : List ℕ) → Less w w → ⊥) (trans : (u v w : List ℕ) → Less u v → Less v w → Less u w) (total : (v w : List ℕ) → Less v w ⊎ ((v ≡ w) ⊎ Less w v)) where
  -- no key of the market's sheet has an offer
  pub none_filed : (b : Book) (q : Request) (fs : List Flight) (legs : List Leg) (m : Market) → AreLegs b q fs legs → IsMarket b m → NoneOfAll m.sheet.value.rows legs m.groups → OffersNone b q fs m.sheet.value.from m.sheet.value.to
  none_filed b q fs legs m are market none key k other same place price offer =
      let sheet : key.sheet.value ≡ m.sheet.value = sheet_one never trans total b m.sheet.value.from m.sheet.value.to key.sheet.value m.sheet.value k.1 market.sheet in
      let legs_is : other.legs ≡ legs = ap (λ a. a.legs) same ∙ legs_one b q.party fs key.legs legs k.0 are.each in
      let sheet_is : other.sheet.value ≡ m.sheet.value = ap (λ a. a.sheet) same ∙ sheet in
      let stands = subst (λ (s : Sheet). slice_get s.rows place ≡ Some offer.row) sheet_is offer.stands in
      let x = each_stands_once m.sheet.value.rows m.groups market.groups place offer.row stands in
      none x.group x.within place offer.row stands x.stands (subst (λ ls. IsOffered ls offer.row) legs_is offer.offered)
