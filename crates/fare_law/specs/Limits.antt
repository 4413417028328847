-- The characters and numbers of names, of a timetable's rows, of fares and of requests.
use Rattle.std.specs.Prelude.{◌≢◌, ℕ, ◌≤◌, ◌≡◌, List, length, slice_index, IfSome, Some}
use Rattle.std.specs.Int.{IsInRange}
use Rattle.fare_law.specs.declared.fares.Fare.{Fare}
use Rattle.fare_law.specs.declared.fares.FareKey.{FareKey}
use Rattle.fare_law.specs.declared.filings.SeatKey.{SeatKey}
use Rattle.fare_law.specs.declared.flights.Flight.{Flight}
use Rattle.fare_law.specs.declared.limits.TheConstants.{MOST_SLICES, MOST_PASSENGERS, MOST_TICKETS, MOST_WINDOW_DAYS}
use Rattle.fare_law.specs.declared.names.Place.{Place}
use Rattle.fare_law.specs.declared.requests.Request.{Request}
use Rattle.fare_law.specs.declared.requests.Slice.{Slice}
use Rattle.fare_law.specs.declared.rows.FlightRow.{FlightRow}
use Rattle.fare_law.specs.declared.rows.PlaceRow.{PlaceRow}
use Rattle.fare_law.specs.declared.rows.SeatRow.{SeatRow}
use Rattle.fare_law.specs.Book.{Book, live_fare, row_key}
use Rattle.fare_law.specs.Days.{IsCalendarDay, IsInstant, IsMinute, IsOffset, IsShift}
use Rattle.fare_law.specs.Lists.{Each}
use Rattle.fare_law.specs.Names.{IsBasis, IsCarrier}

abbrev pub IsCapital : ℕ → Type 0
IsCapital c = (65 ≤ c) × (c ≤ 90)

-- a place of three capital letters
abbrev pub IsPlace : Place → Type 0
IsPlace p = (length p.0 ≡ 3) × Each IsCapital p.0

-- the class of a capital letter
abbrev pub IsClass : ℕ → Type 0
IsClass class = class ≤ 25

-- 1 to 9999
abbrev pub IsFlightNumber : ℕ → Type 0
IsFlightNumber = IsInRange 1 9999

-- names of their forms
pub record IsFareKey (key : FareKey) : Type 0 where
  pub carrier : IsCarrier key.carrier
  pub from : IsPlace key.from
  pub to : IsPlace key.to
  pub basis : IsBasis key.basis

-- the keys of the live fares are of their forms
abbrev pub HasKeys : Book → Type 0
HasKeys b = (key : FareKey) (fare : Fare) → live_fare b key ≡ Some fare → IsCarrier key.carrier × IsBasis key.basis

-- a fare within its limits
pub record IsFare (fare : Fare) : Type 0 where
  pub key : IsFareKey fare.key
  pub class : IsClass fare.class
  pub amount : fare.amount ≤ 1000000000
  pub rule : fare.rule ≤ 9999

-- a dated flight within its limits
pub record IsFlight (f : Flight) : Type 0 where
  pub carrier : IsCarrier f.carrier
  pub number : IsFlightNumber f.number
  pub from : IsPlace f.from
  pub to : IsPlace f.to
  pub day : IsCalendarDay f.day
  pub minute : IsMinute f.minute
  pub dep : IsInstant f.dep
  pub arr : IsInstant f.arr

-- a place and its least connect time within their limits
pub record IsPlaceRow (row : PlaceRow) : Type 0 where
  pub place : IsPlace row.place
  pub connect : row.connect ≤ 1440

-- a row of flights within its limits
pub record IsFlightRow (row : FlightRow) : Type 0 where
  pub carrier : IsCarrier row.carrier
  pub number : IsFlightNumber row.number
  pub from : IsPlace row.from
  pub to : IsPlace row.to
  pub dep : IsMinute row.dep
  pub dep_offset : IsOffset row.dep_offset
  pub arr : IsMinute row.arr
  pub arr_offset : IsOffset row.arr_offset
  pub shift : IsShift row.shift
  pub first : IsCalendarDay row.first
  pub last : IsCalendarDay row.last
  pub days : IsInRange 1 127 row.days

-- what names a seat row, of its form
pub record IsSeatKey (key : SeatKey) : Type 0 where
  pub carrier : IsCarrier key.carrier
  pub number : IsFlightNumber key.number
  pub from : IsPlace key.from
  pub day : IfSome key.day IsCalendarDay

-- at most 9 seats in each class, and none behind the last letter
pub record AreSeats (seats : List ℕ) : Type 0 where
  pub many : length seats ≡ 32
  pub few : Each (λ n. n ≤ 9) seats
  pub none : (class : ℕ) → 26 ≤ class → slice_index seats class ≡ 0

-- a row of seats within its limits
pub record IsSeatRow (row : SeatRow) : Type 0 where
  pub key : IsSeatKey (row_key row)
  pub seats : AreSeats row.seats

-- a slice between places, on days of the century, with a window of 1 to 7 days
pub record IsSlice (s : Slice) : Type 0 where
  pub from : IsPlace s.from
  pub to : IsPlace s.to
  pub first : IsCalendarDay s.first
  pub days : IsInRange 1 MOST_WINDOW_DAYS s.days

abbrev pub EndsDiffer : Slice → Type 0
EndsDiffer s = s.from ≢ s.to

-- a request within its limits
pub record IsRequest (q : Request) : Type 0 where
  pub sale : IsCalendarDay q.sale
  pub party : IsInRange 1 MOST_PASSENGERS q.party
  pub best : IsInRange 1 MOST_TICKETS q.best
  pub count : IsInRange 1 MOST_SLICES (length q.slices)
  pub windows : Each IsSlice q.slices
  pub departs : Each EndsDiffer q.slices
