-- What a timetable refuses, at the first row that has a fault.
use Rattle.std.specs.Prelude.{◌≡◌, ◌⊎◌, ℕ, pos, ◌<◌, ◌≤◌, ◌+ℤ◌, ◌≤ℤ◌, ◌<ℤ◌, List, [], ◌∷◌, ◌++◌, sum_by}
use Rattle.fare_law.specs.declared.flights.Flight.{Flight}
use Rattle.fare_law.specs.declared.names.Place.{Place}
use Rattle.fare_law.specs.declared.rows.FlightRow.{FlightRow}
use Rattle.fare_law.specs.declared.rows.PlaceRow.{PlaceRow}
use Rattle.fare_law.specs.Flights.{Dated, instant}
use Rattle.fare_law.specs.Lists.{IsIn}
use Rattle.schedule_book.specs.declared.faults.SchedFault.{SchedFault}
use Rattle.schedule_book.specs.declared.faults.SchedFault.TheVariants.{PlaceTwice, UnknownPlace, SamePlace, BadPeriod, ArrivesBefore, Twice, TooMany, Mem}
use Rattle.schedule_book.specs.Days.{named_days}
use Rattle.fare_law.specs.declared.limits.TheConstants.{MOST_DATED_FLIGHTS}

-- the place stands among these rows
abbrev pub IsKnown : Place → List PlaceRow → Type 0
IsKnown place rows = (row : PlaceRow) × IsIn row rows × (row.place ≡ place)

-- the two are of one carrier, number, origin and local day
pub record SameDated (f g : Flight) : Type 0 where
  pub carrier : f.carrier ≡ g.carrier
  pub number : f.number ≡ g.number
  pub from : f.from ≡ g.from
  pub day : f.day ≡ g.day

-- an earlier row stands for such a flight
abbrev pub IsRepeated : List FlightRow → FlightRow → Type 0
IsRepeated before row = (earlier : FlightRow) × (f : Flight) × (g : Flight) × IsIn earlier before × Dated earlier f × Dated row g × SameDated f g

-- the row has this fault after the rows before it
abbrev pub HasFault : List PlaceRow → List FlightRow → FlightRow → SchedFault → Type 0
HasFault places before row (PlaceTwice line) = ⊥
HasFault places before row (UnknownPlace line) = (line ≡ row.line) × ((IsKnown row.from places → ⊥) ⊎ (IsKnown row.to places → ⊥))
HasFault places before row (SamePlace line) = (line ≡ row.line) × (row.from ≡ row.to)
HasFault places before row (BadPeriod line) = (line ≡ row.line) × ((row.last <ℤ row.first) ⊎ ((row.first +ℤ pos 365) <ℤ row.last))
HasFault places before row (ArrivesBefore line) = (line ≡ row.line) × (instant (row.first +ℤ row.shift) row.arr row.arr_offset ≤ℤ instant row.first row.dep row.dep_offset)
HasFault places before row (Twice line) = (line ≡ row.line) × IsRepeated before row
HasFault places before row (TooMany line) = (line ≡ row.line) × (MOST_DATED_FLIGHTS < sum_by named_days (before ++ row ∷ []))
HasFault places before row Mem = ⊥

-- the order in which the faults of one row are judged
abbrev pub fault_number : SchedFault → ℕ
fault_number (PlaceTwice line) = 1
fault_number (UnknownPlace line) = 2
fault_number (SamePlace line) = 3
fault_number (BadPeriod line) = 4
fault_number (ArrivesBefore line) = 5
fault_number (Twice line) = 6
fault_number (TooMany line) = 7
fault_number Mem = 8

-- no two of these rows are of one place
abbrev pub PlacesDiffer : List PlaceRow → Type 0
PlacesDiffer rows = (before : List PlaceRow) (row : PlaceRow) (after : List PlaceRow) → rows ≡ before ++ row ∷ after → IsKnown row.place before → ⊥

-- none of these rows has a fault
abbrev pub RowsRight : List PlaceRow → List FlightRow → Type 0
RowsRight places rows = (before : List FlightRow) (row : FlightRow) (after : List FlightRow) → rows ≡ before ++ row ∷ after → (fault : SchedFault) → HasFault places before row fault → ⊥

-- the first place row that repeats a place
abbrev pub PlaceFault : List PlaceRow → SchedFault → Type 0
PlaceFault places fault = (before : List PlaceRow) × (row : PlaceRow) × (after : List PlaceRow) × (places ≡ before ++ row ∷ after) × PlacesDiffer before × IsKnown row.place before × (fault ≡ PlaceTwice row.line)

-- the first flight row with a fault, and its first fault
abbrev pub RowFault : List PlaceRow → List FlightRow → SchedFault → Type 0
RowFault places rows fault = (before : List FlightRow) × (row : FlightRow) × (after : List FlightRow) × (rows ≡ before ++ row ∷ after) × RowsRight places before × HasFault places before row fault
    × ((other : SchedFault) → HasFault places before row other → fault_number fault ≤ fault_number other)

-- The fault of a timetable: of its place rows, or else of its flight rows.
abbrev pub Fault : List PlaceRow → List FlightRow → SchedFault → Type 0
Fault places rows fault = PlaceFault places fault ⊎ (PlacesDiffer places × RowFault places rows fault)

-- a refusal has its cause
abbrev pub HasCause : List PlaceRow → List FlightRow → SchedFault → Type 0
HasCause places rows (PlaceTwice line) = Fault places rows (PlaceTwice line)
HasCause places rows (UnknownPlace line) = Fault places rows (UnknownPlace line)
HasCause places rows (SamePlace line) = Fault places rows (SamePlace line)
HasCause places rows (BadPeriod line) = Fault places rows (BadPeriod line)
HasCause places rows (ArrivesBefore line) = Fault places rows (ArrivesBefore line)
HasCause places rows (Twice line) = Fault places rows (Twice line)
HasCause places rows (TooMany line) = Fault places rows (TooMany line)
HasCause places rows Mem = Unit {0}

-- what the place rows alone can be refused for
abbrev pub PlaceCause : List PlaceRow → SchedFault → Type 0
PlaceCause places (PlaceTwice line) = PlaceFault places (PlaceTwice line)
PlaceCause places (UnknownPlace line) = ⊥
PlaceCause places (SamePlace line) = ⊥
PlaceCause places (BadPeriod line) = ⊥
PlaceCause places (ArrivesBefore line) = ⊥
PlaceCause places (Twice line) = ⊥
PlaceCause places (TooMany line) = ⊥
PlaceCause places Mem = Unit {0}

-- the first fault of a row by itself
abbrev pub OwnFault : List PlaceRow → FlightRow → SchedFault → Type 0
OwnFault places row fault = (before : List FlightRow) → HasFault places before row fault × ((other : SchedFault) → HasFault places before row other → fault_number fault ≤ fault_number other)

-- a row by itself has no fault
abbrev pub NoOwnFault : List PlaceRow → FlightRow → Type 0
NoOwnFault places row = (before : List FlightRow) (other : SchedFault) → HasFault places before row other → 6 ≤ fault_number other

-- what the flight rows alone can be refused for
abbrev pub RowCause : List PlaceRow → List FlightRow → SchedFault → Type 0
RowCause places rows (PlaceTwice line) = ⊥
RowCause places rows (UnknownPlace line) = RowFault places rows (UnknownPlace line)
RowCause places rows (SamePlace line) = RowFault places rows (SamePlace line)
RowCause places rows (BadPeriod line) = RowFault places rows (BadPeriod line)
RowCause places rows (ArrivesBefore line) = RowFault places rows (ArrivesBefore line)
RowCause places rows (Twice line) = RowFault places rows (Twice line)
RowCause places rows (TooMany line) = RowFault places rows (TooMany line)
RowCause places rows Mem = Unit {0}
