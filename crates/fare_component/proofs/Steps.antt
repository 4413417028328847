-- Each row of a sheet in turn: what was tested tells whether it is offered.
use Rattle.std.proofs.Common.{◌≡◌, ◌⊎◌, ◌↔◌, ℕ, ◌+◌, ◌<◌, pos, List, [], ◌∷◌, ◌++◌, Bool, false, IsTrue, length, map, get_or, slice_get, Some, All, refl, sym, ap, subst, ◌∙◌}
use Rattle.std.proofs.lemmas.Bool.{false≢true}
use Rattle.std.proofs.lemmas.List.Elements.{All-map}
use Rattle.std.proofs.lemmas.Option.{slice_get_read}
use Rattle.fare_law.specs.declared.flights.Flight.{Flight}
use Rattle.fare_law.specs.declared.market.OfferKey.{OfferKey}
use Rattle.fare_law.specs.declared.sheets.Leg.{Leg}
use Rattle.fare_law.specs.declared.sheets.SheetRow.{SheetRow}
use Rattle.fare_law.specs.Limits.{IsFlight}
use Rattle.fare_law.specs.Lists.{OnFirst}
use Rattle.fare_law.specs.Offers.{HasDirection, IsOffer, IsOffered, flights_of, row_price}
use Rattle.fare_law.specs.Parts.{DayTimeHolds}
use Rattle.fare_law.specs.Sheets.{Sheet, first_minute, last_minute}
use Rattle.lane_mask.specs.Spans.{AreMarked}
use Rattle.fare_component.specs.declared.offer.Offer.{Offer}
use Rattle.fare_component.specs.Keys.{Begins, Ends, IsKey, IsLeg}
use Rattle.fare_component.specs.Offers.{AreOffers}
use Rattle.fare_component.proofs.Building.{OffersBelow, below_push, below_skip}
use Rattle.fare_component.proofs.Departures.{missed}
use Rattle.fare_component.proofs.Ends.{directed, undirected}
use Rattle.fare_component.proofs.Listed.{each_all}
use Rattle.law_lemmas.proofs.EachOne.{each_got}

pub flights_within : (key : OfferKey) (fs : List Flight) → fs ≡ flights_of key.legs → IsKey key → All IsFlight fs
flights_within key fs same within = subst (All IsFlight) (sym same) (All-map IsFlight (λ leg. leg.flight) key.legs (each_all IsLeg key.legs within.legs.each))

pub row_stands : (key : OfferKey) (xs : List SheetRow) (i : ℕ) (row : SheetRow) → xs ≡ key.sheet.value.rows → i < length key.sheet.value.rows → row ≡ get_or xs i row → slice_get key.sheet.value.rows i ≡ Some row
row_stands key xs i row same less is = slice_get_read key.sheet.value.rows (length key.sheet.value.rows) i row refl less (is ∙ ap (λ l. get_or l i row) same)

-- the two ends are the market's, one way or the other
abbrev pub Joins : Sheet → List Flight → Type 0
Joins sheet fs = (Begins sheet.from fs × Ends sheet.to fs) ⊎ (Begins sheet.to fs × Ends sheet.from fs)

pub row_directed : (key : OfferKey) (fs : List Flight) (i : ℕ) (row : SheetRow) → IsKey key → Joins key.sheet.value fs → slice_get key.sheet.value.rows i ≡ Some row → HasDirection row.fare.key fs
row_directed key fs i row within joins stands =
    let market = each_got (λ (r : SheetRow). (r.fare.key.from ≡ key.sheet.value.from) × (r.fare.key.to ≡ key.sheet.value.to)) key.sheet.value.rows i row within.sheet.market stands in
    directed row.fare.key key.sheet.value.from key.sheet.value.to fs market.0 market.1 joins

pub none_offered : (key : OfferKey) (fs : List Flight) (rows : List Offer) → IsKey key → fs ≡ flights_of key.legs → (Joins key.sheet.value fs → ⊥) → rows ≡ [] → AreOffers key (record { rows = rows })
none_offered key fs rows within same apart empty =
    let none : (o : Offer) → IsOffer key o.place o.price → ⊥ = λ o offer.
    let market = each_got (λ (r : SheetRow). (r.fare.key.from ≡ key.sheet.value.from) × (r.fare.key.to ≡ key.sheet.value.to)) key.sheet.value.rows o.place offer.row within.sheet.market offer.stands in
    apart (undirected offer.row.fare.key key.sheet.value.from key.sheet.value.to fs market.0 market.1 (subst (HasDirection offer.row.fare.key) (sym same) offer.offered.direction)) in
    subst (λ (l : List Offer). AreOffers key (record { rows = l })) (sym empty) (record { ascending = tt; exact = λ o. (λ i. absurd i, λ offer. absurd (none o offer)) })

pub offered_on : (key : OfferKey) (fs : List Flight) (legs : List Leg) (i price : ℕ) (row : SheetRow) (rows more : List Offer) → fs ≡ flights_of key.legs → legs ≡ key.legs → slice_get key.sheet.value.rows i ≡ Some row
    → OffersBelow key i rows → IsOffered legs row → price ≡ row_price fs row → more ≡ rows ++ record { place = i; price = price } ∷ [] → OffersBelow key (i + 1) more
offered_on key fs legs i price row rows more same same_legs stands h offered costs is =
    subst (OffersBelow key (i + 1)) (sym is) (below_push key i price rows row h stands (subst (λ (l : List Leg). IsOffered l row) same_legs offered) (costs ∙ ap (λ l. row_price l row) same))

-- the row at a place is not offered
aside_on : (key : OfferKey) (i : ℕ) (row : SheetRow) (rows more : List Offer) → slice_get key.sheet.value.rows i ≡ Some row → OffersBelow key i rows → (IsOffered key.legs row → ⊥) → more ≡ rows → OffersBelow key (i + 1) more
aside_on key i row rows more stands h none is =
    subst (OffersBelow key (i + 1)) (sym is) (below_skip key i rows h (λ price offer. let same : offer.row ≡ row = cc (offer.stands, stands) in none (subst (IsOffered key.legs) same offer.offered)))

pub refused_on : (key : OfferKey) (legs : List Leg) (i : ℕ) (row : SheetRow) (rows more : List Offer) (b : Bool) → legs ≡ key.legs → slice_get key.sheet.value.rows i ≡ Some row → OffersBelow key i rows
    → (IsTrue b ↔ IsOffered legs row) → b ≡ false → more ≡ rows → OffersBelow key (i + 1) more
refused_on key legs i row rows more b same_legs stands h told closed is =
    aside_on key i row rows more stands h (λ offered. false≢true (sym closed ∙ told.1 (subst (λ (l : List Leg). IsOffered l row) (sym same_legs) offered))) is

pub missed_on : (key : OfferKey) (fs : List Flight) (i : ℕ) (row : SheetRow) (rows more : List Offer) (marks : List Bool) (minute : ℕ) → IsKey key → fs ≡ flights_of key.legs → slice_get key.sheet.value.rows i ≡ Some row
    → OffersBelow key i rows → OnFirst (λ f. f.minute ≡ minute) fs → AreMarked (map first_minute key.sheet.value.rows) (map last_minute key.sheet.value.rows) (pos minute) marks (length key.sheet.value.rows)
    → get_or marks i false ≡ false → more ≡ rows → OffersBelow key (i + 1) more
missed_on key fs i row rows more marks minute within same stands h departs marked set_aside is =
    aside_on key i row rows more stands h (λ offered. missed key.sheet.value.rows marks i row minute fs (flights_within key fs same within) departs marked stands set_aside (subst (OnFirst (DayTimeHolds row.rule)) (sym same) offered.day_time)) is
