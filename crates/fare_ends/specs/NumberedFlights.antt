-- Flights by their numbers.
use Rattle.std.specs.Prelude.{◌≡◌, ℕ, List, ◌++◌}
use Rattle.fare_law.specs.declared.flights.Flight.{Flight}
use Rattle.fare_law.specs.Book.{Book}
use Rattle.fare_law.specs.Lists.{OnFirst, OnLast}
use Rattle.fare_law.specs.Parts.{Numbers}

-- this is the first of the flights of these numbers
abbrev pub BeginsWith : Book → List ℕ → Flight → Type 0
BeginsWith b ns flight = (fs : List Flight) → Numbers b ns fs → OnFirst (λ f. f ≡ flight) fs

-- this is the last of the flights of these numbers
abbrev pub EndsWith : Book → List ℕ → Flight → Type 0
EndsWith b ns flight = (fs : List Flight) → Numbers b ns fs → OnLast (λ f. f ≡ flight) fs

-- the flights of these numbers were added
pub record AddsFlights (b : Book) (ns : List ℕ) (old new : List Flight) : Type 0 where
  pub more : List Flight
  pub joined : new ≡ old ++ more
  pub are : Numbers b ns more
