-- The dated flights of a timetable's rows.
use Rattle.std.specs.Prelude.{◌≡◌, ◌⊎◌, ℕ, ℤ, pos, ◌-◌, ◌<◌, ◌+ℤ◌, ◌-ℤ◌, ◌*ℤ◌, ◌≤ℤ◌, ◌<ℤ◌, ◌↔◌, IsBitSet, List, [], ◌∷◌}
use Rattle.fare_law.specs.declared.flights.Flight.{Flight}
use Rattle.fare_law.specs.declared.rows.FlightRow.{FlightRow}
use Rattle.fare_law.specs.Days.{weekday}
use Rattle.fare_law.specs.Lists.{Each, EachPair, IsIn, Less}

-- minutes since the first day, in universal time
abbrev pub instant : ℤ → ℕ → ℤ → ℤ
instant day minute offset = ((day *ℤ pos 1440) +ℤ pos minute) -ℤ offset

-- a row stands for a flight on each day of its period whose weekday is named
pub record Dated (row : FlightRow) (f : Flight) : Type 0 where
  pub carrier : f.carrier ≡ row.carrier
  pub number : f.number ≡ row.number
  pub from : f.from ≡ row.from
  pub to : f.to ≡ row.to
  pub minute : f.minute ≡ row.dep
  pub first : row.first ≤ℤ f.day
  pub last : f.day ≤ℤ row.last
  pub named : IsBitSet row.days (weekday f.day - 1)
  pub departs : f.dep ≡ instant f.day row.dep row.dep_offset
  pub arrives : f.arr ≡ instant (f.day +ℤ row.shift) row.arr row.arr_offset

-- the flights stand in the order of their departures
abbrev pub Ascending : List Flight → Type 0
Ascending [] = Unit {0}
Ascending (f ∷ fs) = Each (λ g. f.dep ≤ℤ g.dep) fs × Ascending fs

-- by departure, carrier, number, origin and day
abbrev pub Earlier : Flight → Flight → Type 0
Earlier f g =
    (f.dep <ℤ g.dep) ⊎ ((f.dep ≡ g.dep) × (Less f.carrier.0 g.carrier.0 ⊎ ((f.carrier ≡ g.carrier)
    × ((f.number < g.number) ⊎ ((f.number ≡ g.number) × (Less f.from.0 g.from.0 ⊎ ((f.from ≡ g.from) × (f.day <ℤ g.day))))))))

-- The flights of these rows: in order, each once.
pub record AreFlights (rows : List FlightRow) (fs : List Flight) : Type 0 where
  pub in_order : EachPair Earlier fs
  pub are : (f : Flight) → IsIn f fs ↔ ((row : FlightRow) × IsIn row rows × Dated row f)
