-- Markets with the groups of their fares.
use Rattle.std.specs.Prelude.{◌≡◌, ℕ, List, slice_get, Some}
use Rattle.fare_ends.specs.declared.markets.Market.{Market}
use Rattle.fare_ends.specs.declared.markets.MarketKey.{MarketKey}
use Rattle.fare_groups.specs.Grouping.{AreGroups}
use Rattle.fare_law.specs.Book.{Book}
use Rattle.fare_law.specs.Lists.{Each}
use Rattle.fare_law.specs.Sheets.{Sheet, SheetOf}

-- A market has the book's sheet of its ends, and the groups of its rows.
pub record IsMarket (b : Book) (m : Market) : Type 0 where
  pub sheet : SheetOf b m.sheet.value.from m.sheet.value.to m.sheet.value
  pub groups : AreGroups m.sheet.value.rows m.groups

abbrev pub AreMarkets : Book → List Market → Type 0
AreMarkets b ms = Each (IsMarket b) ms

-- the sheet is the book's of these ends
abbrev pub Stands : Book → MarketKey → Sheet → Type 0
Stands b key sheet = SheetOf b key.from key.to sheet

-- the market of these ends stands at this place
pub record StandsAt (ms : List Market) (key : MarketKey) (at : ℕ) : Type 0 where
  pub market : Market
  pub stands : slice_get ms at ≡ Some market
  pub from : market.sheet.value.from ≡ key.from
  pub to : market.sheet.value.to ≡ key.to
