-- The keys by which a search asks for offers: for each path of a residual, its legs with a sheet of the book.
use Rattle.std.specs.Prelude.{◌≡◌, ◌≢◌, ◌⊎◌, ◌↔◌, ℕ, ◌≤◌, ◌<◌, ◌^◌, List, [], Option, IsBitSet}
use Rattle.fare_law.specs.declared.flights.Flight.{Flight}
use Rattle.fare_law.specs.declared.market.OfferKey.{OfferKey}
use Rattle.fare_law.specs.declared.names.Place.{Place}
use Rattle.fare_law.specs.declared.requests.Request.{Request}
use Rattle.fare_law.specs.declared.sheets.Leg.{Leg}
use Rattle.fare_law.specs.Book.{Book, seats}
use Rattle.fare_law.specs.Lists.{Matched, OnFirst, OnLast}
use Rattle.fare_law.specs.Sheets.{SheetOf}
use Rattle.flight_paths.specs.declared.positions.Position.{Position}
use Rattle.flight_paths.specs.Positions.{IsPath}
use Rattle.residual_keys.specs.Residuals.{State}
use Rattle.residual_keys.specs.Searches.{Reached}

-- The leg is this flight, with the classes that have seats for the party.
pub record IsLeg (b : Book) (party : ℕ) (f : Flight) (leg : Leg) : Type 0 where
  pub flight : leg.flight ≡ f
  pub fits : leg.classes < 2 ^ 32
  pub classes : (class : ℕ) → class < 32 → IsBitSet leg.classes class ↔ (party ≤ seats b f class)

-- the key has these flights as legs, and the book's sheet from the one place to the other
abbrev pub IsKey : Book → Request → List Flight → Place → Place → OfferKey → Type 0
IsKey b q fs from to key = Matched (IsLeg b q.party) fs key.legs × SheetOf b from to key.sheet.value

-- The keys of these flights: with the sheet filed from their beginning to their end, and, where a unit is open, with the one filed the other way.
abbrev pub KeyOfFlights : Book → Request → State → List Flight → OfferKey → Type 0
KeyOfFlights b q r fs key =
    OnFirst (λ f. OnLast (λ z. IsKey b q fs f.from z.to key ⊎ ((r.units ≢ []) × IsKey b q fs z.to f.from key)) fs) fs

-- A key of a residual: of some path of its position.
pub record KeyOf (b : Book) (q : Request) (r : State) (key : OfferKey) : Type 0 where
  pub numbers : List ℕ
  pub flights : List Flight
  pub next : Option Position
  pub path : IsPath b q.slices r.at numbers flights next
  pub of : KeyOfFlights b q r flights key

-- The keys of a search: of the residuals that are reached.
abbrev pub Keys : Book → Request → OfferKey → Type 0
Keys b q key = (r : State) × Reached b q r × KeyOf b q r key
