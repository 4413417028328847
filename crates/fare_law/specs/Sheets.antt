-- Sheets: the live fares of one market, with what their rules say of the time of departure.
use Rattle.std.specs.Prelude.{◌≡◌, ◌≢◌, ◌⊎◌, ◌↔◌, ◌≤◌, ◌<◌, ℕ, ℤ, pos, List, [], length, slice_index_or, Option, Some, None}
use Rattle.fare_law.specs.declared.limits.TheConstants.{MOST_FARES}
use Rattle.fare_law.specs.declared.names.Place.{Place}
use Rattle.fare_law.specs.declared.rules.DayTime.{DayTime}
use Rattle.fare_law.specs.declared.sheets.SheetRow.{SheetRow}
use Rattle.fare_law.specs.Book.{Book, live_fare, live_rule}
use Rattle.fare_law.specs.Lists.{Each, EachPair, IsIn, Less}

-- the fares that are filed from one place to another
pub record Sheet : Type 0 where
  pub from : Place
  pub to : Place
  pub rows : List SheetRow

abbrev pub from_minute : Option DayTime → ℤ
from_minute None = pos 0
from_minute (Some c) = pos c.from

abbrev pub to_minute : Option DayTime → ℤ
to_minute None = pos 1439
to_minute (Some c) = pos c.to

-- the first minute of the day at which category 2 lets a component depart
abbrev pub first_minute : SheetRow → ℤ
first_minute row = from_minute row.rule.cat2

-- the last minute of the day at which category 2 lets a component depart
abbrev pub last_minute : SheetRow → ℤ
last_minute row = to_minute row.rule.cat2

-- by carrier, then by basis
abbrev pub RowBefore : SheetRow → SheetRow → Type 0
RowBefore r s = Less r.fare.key.carrier.0 s.fare.key.carrier.0 ⊎ ((r.fare.key.carrier ≡ s.fare.key.carrier) × Less r.fare.key.basis.0 s.fare.key.basis.0)

-- rows that make a sheet: as many as a book has fares at most, of this market, ascending
pub record IsSheet (from to : Place) (rows : List SheetRow) : Type 0 where
  pub few : length rows ≤ MOST_FARES
  pub market : Each (λ row. (row.fare.key.from ≡ from) × (row.fare.key.to ≡ to)) rows
  pub ascending : EachPair RowBefore rows

-- the fare of the row is live and filed from the one place to the other, and the rule is its live rule
pub record IsLiveRow (b : Book) (from to : Place) (row : SheetRow) : Type 0 where
  pub filed_from : row.fare.key.from ≡ from
  pub filed_to : row.fare.key.to ≡ to
  pub fare : live_fare b row.fare.key ≡ Some row.fare
  pub rule : live_rule b row.fare.key.carrier row.fare.rule ≡ Some row.rule

-- The book's sheet of a market: its live fares in order, of which there is one at least.
pub record SheetOf (b : Book) (from to : Place) (sheet : Sheet) : Type 0 where
  pub filed_from : sheet.from ≡ from
  pub filed_to : sheet.to ≡ to
  pub some : sheet.rows ≢ []
  pub ascending : EachPair RowBefore sheet.rows
  pub live : (row : SheetRow) → IsIn row sheet.rows ↔ IsLiveRow b from to row

-- the rule of the i-th row is that of the j-th, which doesn't stand after it
abbrev pub HasRuleOf : List SheetRow → ℕ → ℕ → Type 0
HasRuleOf rows i j = (j ≤ i) × ((d : SheetRow) → (slice_index_or rows i d).rule ≡ (slice_index_or rows j d).rule)

-- for each row one that doesn't stand after it and has the same rule
pub record AreRuleRows (rows : List SheetRow) (places : List ℕ) : Type 0 where
  pub many : length places ≡ length rows
  pub each : (i : ℕ) → i < length rows → HasRuleOf rows i (slice_index_or places i 0)
