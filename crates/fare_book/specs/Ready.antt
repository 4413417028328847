-- What is ready to become the sheets of a book.
use Rattle.std.specs.Prelude.{List, [], Option, MatchOption}
use Rattle.std.specs.declared.sync.Arc.{Arc}
use Rattle.fare_law.specs.declared.fares.Fare.{Fare}
use Rattle.fare_law.specs.declared.fares.FareKey.{FareKey}
use Rattle.fare_law.specs.declared.rules.Rule.{Rule}
use Rattle.fare_law.specs.Book.{Book, live_fare, live_rule}
use Rattle.fare_law.specs.Sheets.{Sheet, SheetOf}
use Rattle.fare_book.specs.Counts.{AtMost}
use Rattle.fare_book.specs.Keeping.{IsLive, NoFare, Rules, RulesStand}
use Rattle.fare_book.specs.Tables.{MarketHolds, TableOf}
use Rattle.fare_book.specs.declared.fare_table.FareTable.{FareTable}
use Rattle.fare_book.specs.declared.keys.Market.{Market}
use Rattle.fare_book.specs.declared.keys.RuleKey.{RuleKey}
use Rattle.fare_law.specs.declared.limits.TheConstants.{MOST_FARES}

-- a market's sheet, or none where it has no fare
abbrev pub IsRight : Book → Market → Option Sheet → Type 0
IsRight b m sheet = MatchOption sheet (NoFare b m.from m.to) (SheetOf b m.from m.to)

-- the rules that the live fares name are these, and there are at most `MOST_FARES` fares
pub record Ruled (b : Book) (rules : List (RuleKey × Rule)) : Type 0 where
  pub rules_are : Rules b rules
  pub stand : RulesStand b
  pub few : AtMost MOST_FARES (IsLive b)

-- the table has the live fares of the market
pub record MakesSheet (b : Book) (m : Market) (table : List (FareKey × Fare)) (rules : List (RuleKey × Rule)) : Type 0 where
  pub table_is : TableOf (live_fare b) m table
  pub ruled : Ruled b rules

-- each market has its table or its sheet
pub record Ready {Z : Type 0} (b : Book) (sheets : List (Market × Arc Sheet Z)) (tables : List (Market × FareTable)) (rules : List (RuleKey × Rule)) : Type 0 where
  pub markets : (m : Market) → MarketHolds (live_fare b) (live_rule b) [] sheets tables m
  pub ruled : Ruled b rules
