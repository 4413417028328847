-- The dated flights of rows, before they are put in order.
use Rattle.std.specs.Prelude.{◌≡◌, ◌↔◌, Bool, true, List, ◌∷◌, ◌++◌, length, map, sum_by}
use Rattle.std.specs.HashSet.{HashSet, contains}
use Rattle.std.specs.List.{IsDistinct, list_any}
use Rattle.fare_law.specs.declared.flights.Flight.{Flight}
use Rattle.fare_law.specs.declared.rows.FlightRow.{FlightRow}
use Rattle.fare_law.specs.Flights.{Dated}
use Rattle.fare_law.specs.Lists.{IsIn}
use Rattle.schedule_book.specs.declared.dated.DatedNumber.{DatedNumber}
use Rattle.schedule_book.specs.declared.dated.FlightName.{FlightName}
use Rattle.schedule_book.specs.Days.{named_days}

-- what tells a dated flight from the others
abbrev pub number_of : Flight → DatedNumber
number_of f = record { carrier = f.carrier; number = f.number; from = f.from; day = f.day }

-- what names the flights of a row, on all its days
abbrev pub name_of : FlightRow → FlightName
name_of row = record { carrier = row.carrier; number = row.number; from = row.from }

-- what names the flights of a dated number, on all days
abbrev pub name_in : DatedNumber → FlightName
name_in q = record { carrier = q.carrier; number = q.number; from = q.from }

-- no two of these flights have one number
abbrev pub AllDiffer : (DatedNumber → DatedNumber → Bool) → List Flight → Type 0
AllDiffer eq flights = IsDistinct eq (map number_of flights)

-- what was seen tells whether one of these flights has the number
abbrev pub SeenAt : {S : Type 0} → (DatedNumber → DatedNumber → Bool) → List Flight → HashSet DatedNumber S → DatedNumber → Type 0
SeenAt eq flights seen q = contains eq seen q ≡ list_any (eq q) (map number_of flights)

-- it tells so of each number that one of these more flights may have, if it told so before
abbrev pub StillSeen : {S : Type 0} → (DatedNumber → DatedNumber → Bool) → List Flight → HashSet DatedNumber S → List Flight → HashSet DatedNumber S → Type 0
StillSeen eq old before new after = (q : DatedNumber) → SeenAt eq old before q → SeenAt eq new after q

-- none of these flights has the name
abbrev pub HasNone : FlightName → List Flight → Type 0
HasNone name flights = (f : Flight) → IsIn f flights → name_in (number_of f) ≡ name → ⊥

-- one of these rows has the name
abbrev pub IsNamed : FlightName → List FlightRow → Type 0
IsNamed name rows = (row : FlightRow) × IsIn row rows × (name_of row ≡ name)

-- each name that a row has after another is among the shared ones
abbrev pub HasShared : {S : Type 0} → (FlightName → FlightName → Bool) → List FlightRow → HashSet FlightName S → Type 0
HasShared eq rows shared = (before : List FlightRow) (row : FlightRow) (after : List FlightRow) → rows ≡ before ++ row ∷ after → IsNamed (name_of row) before → contains eq shared (name_of row) ≡ true

-- no two of these flights have one number, and what was seen tells of those that have a shared name
pub record Seen {S T : Type 0} (eq : DatedNumber → DatedNumber → Bool) (named : FlightName → FlightName → Bool) (shared : HashSet FlightName S) (flights : List Flight) (seen : HashSet DatedNumber T) : Type 0 where
  pub differ : AllDiffer eq flights
  pub same : (q : DatedNumber) → contains named shared (name_in q) ≡ true → SeenAt eq flights seen q

-- to these flights were added those that the row stands for
pub record AddsRow (row : FlightRow) (old new : List Flight) : Type 0 where
  pub more : List Flight
  pub joined : new ≡ old ++ more
  pub are : (f : Flight) → IsIn f more ↔ Dated row f
  pub many : length more ≡ named_days row

-- a flight of the same number is among these
abbrev pub IsAmong : Flight → List Flight → Type 0
IsAmong flight flights = (f : Flight) × IsIn f flights × (number_of f ≡ number_of flight)

-- the row stands for a flight whose number is among these
abbrev pub RepeatsOne : FlightRow → List Flight → Type 0
RepeatsOne row flights = (g : Flight) × Dated row g × IsAmong g flights

-- these are the flights of the rows, each once
pub record Expands (eq : DatedNumber → DatedNumber → Bool) (rows : List FlightRow) (flights : List Flight) : Type 0 where
  pub are : (f : Flight) → IsIn f flights ↔ ((row : FlightRow) × IsIn row rows × Dated row f)
  pub many : length flights ≡ sum_by named_days rows
  pub differ : IsDistinct eq (map number_of flights)
