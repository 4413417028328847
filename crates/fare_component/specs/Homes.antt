-- The home of a key: a number of its flights, by which its node is found.
use Rattle.std.specs.Prelude.{ℕ, ◌+◌, ◌*◌, List, [], ◌∷◌, unsigned_abs}
use Rattle.fare_component.specs.Keys.{Asked}
use Rattle.fare_law.specs.declared.flights.Flight.{Flight}
use Rattle.fare_law.specs.declared.sheets.Leg.{Leg}

abbrev pub flight_number : Flight → ℕ
flight_number f = 10000 * unsigned_abs f.day + f.number

-- the legs' numbers, the first of them so many times, and each further one once more
abbrev pub weighed : ℕ → List Leg → ℕ
weighed times [] = 0
weighed times (leg ∷ legs) = times * flight_number leg.flight + weighed (times + 1) legs

abbrev pub home_of : Asked → ℕ
home_of a = weighed 1 a.legs
