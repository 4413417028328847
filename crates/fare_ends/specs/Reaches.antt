-- The markets between one place and others.
use Rattle.std.specs.Prelude.{◌≡◌, ◌≤◌, ◌<◌, ℕ, Bool, true, false, List, Some, length, slice_get}
use Rattle.fare_book.specs.Keeping.{NoFare}
use Rattle.fare_ends.specs.declared.markets.Market.{Market}
use Rattle.fare_ends.specs.declared.markets.MarketKey.{MarketKey}
use Rattle.fare_ends.specs.declared.filed.Filed.{Filed}
use Rattle.fare_ends.specs.Markets.{StandsAt}
use Rattle.fare_groups.specs.declared.group.FareGroup.{FareGroup}
use Rattle.fare_law.specs.declared.names.Carrier.{Carrier}
use Rattle.fare_law.specs.declared.names.Place.{Place}
use Rattle.fare_law.specs.Book.{Book}

-- all groups of the carrier stand between these places
abbrev pub StandBetween : List FareGroup → Carrier → Filed → Type 0
StandBetween gs carrier f = (i : ℕ) (g : FareGroup) → slice_get gs i ≡ Some g → g.key.carrier ≡ carrier → (f.from ≤ i) × (i < f.to)

-- the market of these ends stands at this place, and all its groups of the carrier between these
pub record FiledAt (ms : List Market) (key : MarketKey) (carrier : Carrier) (f : Filed) : Type 0 where
  pub at : StandsAt ms key f.market
  pub within : f.to ≤ length at.market.groups
  pub groups : StandBetween at.market.groups carrier f

-- the place from which fares are filed this way between a place and an end
abbrev pub end_from : Bool → Place → Place → Place
end_from true from to = to
end_from false from to = from

-- and the place to which
abbrev pub end_to : Bool → Place → Place → Place
end_to true from to = from
end_to false from to = to

-- no fare is filed between the places, in neither direction
abbrev pub HasNoFares : Book → Place → Place → Type 0
HasNoFares b from to = NoFare b from to × NoFare b to from
