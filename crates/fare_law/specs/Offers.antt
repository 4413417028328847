-- Offers: the fares of a sheet that are lawful on the legs of a component, by the tests that look at the component alone.
use Rattle.std.specs.Prelude.{◌≡◌, ◌⊎◌, ℕ, List, map, slice_get, All, IsBitSet, Some}
use Rattle.fare_law.specs.declared.fares.FareKey.{FareKey}
use Rattle.fare_law.specs.declared.flights.Flight.{Flight}
use Rattle.fare_law.specs.declared.market.OfferKey.{OfferKey}
use Rattle.fare_law.specs.declared.names.Place.{Place}
use Rattle.fare_law.specs.declared.sheets.Leg.{Leg}
use Rattle.fare_law.specs.declared.sheets.SheetRow.{SheetRow}
use Rattle.fare_law.specs.Lists.{OnFirst, OnLast}
use Rattle.fare_law.specs.Parts.{DayTimeHolds, FlightsHold, StopoversHold, TransfersHold, fare_price}

-- the fare is filed from the one place to the other, or the other way round
abbrev pub FiledBetween : FareKey → Place → Place → Type 0
FiledBetween key begin end = ((key.from ≡ begin) × (key.to ≡ end)) ⊎ ((key.from ≡ end) × (key.to ≡ begin))

-- the fare is filed from the beginning of these flights to their end, or from their end to their beginning
abbrev pub HasDirection : FareKey → List Flight → Type 0
HasDirection key fs = OnFirst (λ f. OnLast (λ z. FiledBetween key f.from z.to) fs) fs

abbrev pub flights_of : List Leg → List Flight
flights_of legs = map (λ leg. leg.flight) legs

-- The row's fare may be had on these legs, and is lawful on their flights as far as the component goes.
pub record IsOffered (legs : List Leg) (row : SheetRow) : Type 0 where
  pub direction : HasDirection row.fare.key (flights_of legs)
  pub seats : All (λ leg. IsBitSet leg.classes row.fare.class) legs
  pub day_time : OnFirst (DayTimeHolds row.rule) (flights_of legs)
  pub flights : FlightsHold row.rule (flights_of legs)
  pub stopovers : StopoversHold row.rule (flights_of legs)
  pub transfers : TransfersHold row.rule row.fare.key.carrier (flights_of legs)

-- what a component of these flights costs with the row's fare
abbrev pub row_price : List Flight → SheetRow → ℕ
row_price fs row = fare_price fs row.fare row.rule

-- An offer of a key: the place of a row that is offered, counted from 0, and its price.
pub record IsOffer (key : OfferKey) (place price : ℕ) : Type 0 where
  pub row : SheetRow
  pub stands : slice_get key.sheet.value.rows place ≡ Some row
  pub offered : IsOffered key.legs row
  pub costs : price ≡ row_price (flights_of key.legs) row
