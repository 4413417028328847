-- The paths that end where fares are filed, and flights on which no fare is offered.
use Rattle.std.specs.Prelude.{◌≡◌, ◌⊎◌, ℕ, List, slice_get, Some}
use Rattle.fare_ends.specs.Reaches.{HasNoFares}
use Rattle.fare_component.specs.Keys.{asked}
use Rattle.fare_component.specs.Offers.{HasNoOffers}
use Rattle.fare_groups.specs.declared.group.FareGroup.{FareGroup}
use Rattle.fare_groups.specs.Grouping.{fare_at}
use Rattle.fare_law.specs.declared.flights.Flight.{Flight}
use Rattle.fare_law.specs.declared.market.OfferKey.{OfferKey}
use Rattle.fare_law.specs.declared.names.Place.{Place}
use Rattle.fare_law.specs.declared.requests.Request.{Request}
use Rattle.fare_law.specs.declared.sheets.Leg.{Leg}
use Rattle.fare_law.specs.declared.sheets.SheetRow.{SheetRow}
use Rattle.fare_law.specs.Book.{Book}
use Rattle.fare_law.specs.Lists.{IsIn, OnLast}
use Rattle.fare_law.specs.Offers.{IsOffered}
use Rattle.flight_paths.specs.declared.positions.Path.{Path}
use Rattle.flight_paths.specs.declared.positions.Position.{Position}
use Rattle.flight_paths.specs.Positions.{IsPath}
use Rattle.residual_keys.specs.AskedKeys.{IsKey}

-- These are paths of the position, and among them is each but those from whose beginning to whose end no fare is filed, nor back.
pub record AreServed (b : Book) (q : Request) (at : Position) (paths : List Path) : Type 0 where
  pub each : (x : Path) → IsIn x paths → (fs : List Flight) × IsPath b q.slices at x.flights fs x.after
  pub all : (x : Path) (fs : List Flight) → IsPath b q.slices at x.flights fs x.after → IsIn x paths ⊎ OnLast (λ z. HasNoFares b at.place z.to) fs

-- no key of these flights and the sheet from the one place to the other has an offer
abbrev pub OffersNone : Book → Request → List Flight → Place → Place → Type 0
OffersNone b q fs from to = (key : OfferKey) → IsKey b q fs from to key → HasNoOffers (asked key)

-- no fare of the group is offered on these legs
abbrev pub NoneOffered : List SheetRow → List Leg → FareGroup → Type 0
NoneOffered rows legs g = (n : ℕ) (row : SheetRow) → slice_get rows n ≡ Some row → IsIn (fare_at n row) g.fares → IsOffered legs row → ⊥
