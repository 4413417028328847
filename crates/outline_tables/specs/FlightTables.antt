-- The tables of flights that were made so far.
use Rattle.std.specs.Prelude.{◌≡◌, ◌⊎◌, ◌<◌, ℕ, suc, List, length, slice_get, Some, Vec}
use Rattle.std.specs.declared.alloc.Global.{Global}
use Rattle.fare_ends.specs.Ends.{IsRange, between}
use Rattle.fare_law.specs.Lists.{Each}
use Rattle.outline_tables.specs.declared.flight_tables.FlightTables.{FlightTables}
use Rattle.outline_tables.specs.declared.flight_tables.TableRange.{TableRange}
use Rattle.outline_tables.specs.declared.outline_numbers.Priced.{Priced}

-- the number of a table stands for a flight at a level
pub record NumberStands (levels : List (Vec ℕ Global)) (level flight number : ℕ) : Type 0 where
  pub places : Vec ℕ Global
  pub level_is : slice_get levels level ≡ Some places
  pub place : slice_get places.items flight ≡ Some (suc number)

-- Each range is one of the entries, and each number that stands is that of a range.
pub record AreRanges (kept : FlightTables) : Type 0 where
  pub each : Each (λ (r : TableRange). IsRange kept.entries.items r.from r.to) kept.ranges.items
  pub numbers : (level flight number : ℕ) → NumberStands kept.places.items level flight number → number < length kept.ranges.items

-- the table of this number
pub record HasTable (kept : FlightTables) (table : List Priced) (number : ℕ) : Type 0 where
  pub range : TableRange
  pub stands : slice_get kept.ranges.items number ≡ Some range
  pub is : table ≡ between kept.entries.items range.from range.to

-- the table whose number is one less than this
pub record HasPlace (kept : FlightTables) (table : List Priced) (place : ℕ) : Type 0 where
  pub number : ℕ
  pub is : place ≡ suc number
  pub has : HasTable kept table number

-- the table of a flight at a level
pub record TableStands (kept : FlightTables) (level flight : ℕ) (table : List Priced) : Type 0 where
  pub number : ℕ
  pub stands : NumberStands kept.places.items level flight number
  pub has : HasTable kept table number

-- no table is another, and none is new
abbrev pub KeepsTables : FlightTables → FlightTables → Type 0
KeepsTables old new = (level flight : ℕ) (table : List Priced) → TableStands new level flight table → TableStands old level flight table

-- each table that stands stood, but for that of this flight at this level
abbrev pub PutsTable : ℕ → ℕ → List Priced → FlightTables → FlightTables → Type 0
PutsTable at number own old new = (level flight : ℕ) (table : List Priced) → TableStands new level flight table → TableStands old level flight table ⊎ ((level ≡ at) × (flight ≡ number) × (table ≡ own))

-- no number of a table is another, and none is new
abbrev pub KeepsPlaces : List ℕ → List ℕ → Type 0
KeepsPlaces old new = (flight number : ℕ) → slice_get new flight ≡ Some (suc number) → slice_get old flight ≡ Some (suc number)

abbrev pub KeepsLevels : List (Vec ℕ Global) → List (Vec ℕ Global) → Type 0
KeepsLevels old new = (level flight number : ℕ) → NumberStands new level flight number → NumberStands old level flight number

-- there is room for the number of a flight's table at a level
pub record HasRoom (levels : List (Vec ℕ Global)) (level flight : ℕ) : Type 0 where
  pub places : Vec ℕ Global
  pub level_is : slice_get levels level ≡ Some places
  pub within : flight < length places.items

-- A place is set: its number stands there, and each other number stood.
pub record SetsPlace (old new : List (Vec ℕ Global)) (at of place : ℕ) : Type 0 where
  pub only : (level flight number : ℕ) → NumberStands new level flight number → NumberStands old level flight number ⊎ ((level ≡ at) × (flight ≡ of) × (suc number ≡ place))
  pub there : (number : ℕ) → place ≡ suc number → NumberStands new at of number
