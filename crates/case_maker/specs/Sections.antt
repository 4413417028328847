-- The rows that a made case has.
use Rattle.std.specs.Prelude.{◌≡◌, ◌<◌, ℕ, pos, List, Some, None, codes}
use Rattle.fare_law.specs.declared.names.Carrier.{Carrier}
use Rattle.fare_law.specs.declared.rows.FlightRow.{FlightRow}
use Rattle.fare_law.specs.declared.rows.PlaceRow.{PlaceRow}
use Rattle.fare_law.specs.declared.rows.SeatRow.{SeatRow}
use Rattle.market_time.specs.Dates.{day_spelled}
use Rattle.case_maker.specs.Lines.{Leg}

-- the one carrier
abbrev pub mx : Carrier
mx = record { 0 = codes "MX" }

-- the row of a place of this name
abbrev pub IsPlaceOf : List ℕ → PlaceRow → Type 0
IsPlaceOf name row = row.place.0 ≡ name

-- The row of a flight by UTC on its one day, on which it arrives after it departs.
pub record IsFlightOf (leg : Leg) (row : FlightRow) : Type 0 where
  pub carrier : row.carrier ≡ mx
  pub number : row.number ≡ leg.number
  pub from : row.from.0 ≡ leg.from
  pub to : row.to.0 ≡ leg.to
  pub first : day_spelled leg.date ≡ Some row.first
  pub last : row.last ≡ row.first
  pub shift : row.shift ≡ pos 0
  pub dep_offset : row.dep_offset ≡ pos 0
  pub arr_offset : row.arr_offset ≡ pos 0
  pub in_time : row.dep < row.arr

-- the row of a flight's seats on every day
pub record IsSeatsOf (leg : Leg) (row : SeatRow) : Type 0 where
  pub carrier : row.carrier ≡ mx
  pub number : row.number ≡ leg.number
  pub from : row.from.0 ≡ leg.from
  pub day : row.day ≡ None

-- the line of the request
abbrev pub request_line : List ℕ
request_line = codes "{\"best\":10,\"party\":2,\"sale\":\"2031-02-01\",\"slices\":[{\"days\":1,\"first\":\"2031-03-03\",\"from\":\"AAA\",\"to\":\"BBB\"},{\"days\":1,\"first\":\"2031-03-10\",\"from\":\"BBB\",\"to\":\"AAA\"}]}"
