-- What offers are asked by: a key's limits, and what it asks for.
use Rattle.std.specs.Prelude.{◌≡◌, List}
use Rattle.fare_law.specs.declared.flights.Flight.{Flight}
use Rattle.fare_law.specs.declared.market.OfferKey.{OfferKey}
use Rattle.fare_law.specs.declared.names.Place.{Place}
use Rattle.fare_law.specs.declared.sheets.Leg.{Leg}
use Rattle.fare_law.specs.declared.sheets.SheetRow.{SheetRow}
use Rattle.fare_law.specs.Limits.{IsFare, IsFlight}
use Rattle.fare_law.specs.Lists.{Each, OnFirst, OnLast}
use Rattle.fare_law.specs.RuleLimits.{IsListOf, IsRule}
use Rattle.fare_law.specs.Sheets.{IsSheet, Sheet}
use Rattle.fare_law.specs.declared.limits.TheConstants.{MOST_FLIGHTS_OF_A_COMPONENT}

abbrev pub IsLeg : Leg → Type 0
IsLeg leg = IsFlight leg.flight

abbrev pub IsRow : SheetRow → Type 0
IsRow row = IsFare row.fare × IsRule row.rule

-- a key within its limits: one to four legs, and the sheet of a market
pub record IsKey (key : OfferKey) : Type 0 where
  pub legs : IsListOf MOST_FLIGHTS_OF_A_COMPONENT IsLeg key.legs
  pub sheet : IsSheet key.sheet.value.from key.sheet.value.to key.sheet.value.rows
  pub rows : Each IsRow key.sheet.value.rows

-- what a key asks for, whichever pointer its sheet stands behind
pub record Asked : Type 0 where
  pub legs : List Leg
  pub sheet : Sheet

abbrev pub asked : OfferKey → Asked
asked key = record { legs = key.legs; sheet = key.sheet.value }

-- the first of the flights departs from the place
abbrev pub Begins : Place → List Flight → Type 0
Begins place fs = OnFirst (λ f. place ≡ f.from) fs

-- the last of the flights arrives at the place
abbrev pub Ends : Place → List Flight → Type 0
Ends place fs = OnLast (λ f. place ≡ f.to) fs
