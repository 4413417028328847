-- What the keys of residuals ask for, and which residuals have the keys of another.
use Rattle.std.specs.Prelude.{ℕ, ◌+◌, Bool, List}
use Rattle.fare_component.specs.Keys.{Asked, asked}
use Rattle.fare_law.specs.declared.flights.Flight.{Flight}
use Rattle.fare_law.specs.declared.market.OfferKey.{OfferKey}
use Rattle.fare_law.specs.declared.names.Place.{Place}
use Rattle.fare_law.specs.declared.requests.Request.{Request}
use Rattle.fare_law.specs.Book.{Book}
use Rattle.fare_law.specs.Lists.{IsIn}
use Rattle.flight_paths.specs.declared.positions.Position.{Position}
use Rattle.residual_keys.specs.declared.way.Way.{Way}
use Rattle.residual_keys.specs.AskedKeys.{IsKey, KeyOf}
use Rattle.residual_keys.specs.Residuals.{State}
use Rattle.residual_keys.specs.Steps.{MarketOver}
use Rattle.residual_keys.specs.WaysOf.{IsWayOf}

-- the position from where the flight of this number alone leads on
abbrev pub narrowed : Position → ℕ → Position
narrowed at n = record { slice = at.slice; leg = at.leg; place = at.place; via = at.via; lo = n; hi = n + 1 }

-- the residual there
abbrev pub begun_by : State → ℕ → State
begun_by x n = record { at = narrowed x.at n; units = x.units; part = x.part }

-- what the keys of the residual ask for is settled
abbrev pub HasKeysSettled : Book → Request → (Asked → Type 0) → State → Type 0
HasKeysSettled b q Settled x = (key : OfferKey) → KeyOf b q x key → Settled (asked key)

-- the other residual has all keys of the one
abbrev pub HasKeysOf : State → State → Type 0
HasKeysOf x y = (b : Book) (q : Request) (key : OfferKey) → KeyOf b q x key → KeyOf b q y key

-- one of these has all keys of the residual
abbrev pub IsAsked : List State → State → Type 0
IsAsked asked x = (y : State) × IsIn y asked × HasKeysOf x y

-- the way of a path of some residual
abbrev pub IsWay : Book → Request → Way → Type 0
IsWay b q way = (r : State) × IsWayOf b q r way

-- the key has these flights as legs, and a sheet of fares that are filed over them this way
abbrev pub IsFiledKey : Book → Request → List Flight → Bool → OfferKey → Type 0
IsFiledKey b q fs reverse key = (from : Place) × (to : Place) × MarketOver reverse fs from to × IsKey b q fs from to key
