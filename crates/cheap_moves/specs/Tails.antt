-- The tails of the next slice.
use Rattle.std.specs.Prelude.{◌≡◌, ℕ, List}
use Rattle.fare_law.specs.declared.requests.Slice.{Slice}
use Rattle.fare_law.specs.Book.{Book}
use Rattle.flight_paths.specs.declared.positions.Path.{Path}
use Rattle.flight_paths.specs.Heads.{AreTails}

-- the books have the same places and flights
pub record SamePlan (b c : Book) : Type 0 where
  pub places : b.timetable.places ≡ c.timetable.places
  pub flights : b.timetable.flights ≡ c.timetable.flights

-- these are the tails of slice i, whichever seats and filings there are over the book's flights
abbrev pub AreTailsOver : Book → List Slice → ℕ → List Path → Type 0
AreTailsOver b slices i tails = (c : Book) → SamePlan c b → AreTails c slices i tails
