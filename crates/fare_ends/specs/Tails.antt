-- The tails of the next slice that the paths of a position may need.
use Rattle.std.specs.Prelude.{◌≡◌, ◌≢◌, ℕ, ◌+◌, ◌<◌, Bool, false, true, List, [], length, Some, slice_get}
use Rattle.fare_ends.specs.declared.tail_ends.TailEnds.{TailEnds}
use Rattle.fare_ends.specs.Reaches.{HasNoFares}
use Rattle.fare_law.specs.declared.flights.Flight.{Flight}
use Rattle.fare_law.specs.declared.names.Place.{Place}
use Rattle.fare_law.specs.declared.requests.Request.{Request}
use Rattle.fare_law.specs.declared.requests.Slice.{Slice}
use Rattle.fare_law.specs.Book.{Book}
use Rattle.fare_law.specs.Lists.{Each, EachPair, IsIn, Matched, OnLast}
use Rattle.fare_law.specs.Parts.{Numbers}
use Rattle.flight_paths.specs.declared.positions.Path.{Path}
use Rattle.flight_paths.specs.declared.positions.Position.{Position}
use Rattle.flight_paths.specs.Heads.{AreTails, TailsTo}

-- the books have the same places and flights
pub record SamePlan (b c : Book) : Type 0 where
  pub places : b.timetable.places ≡ c.timetable.places
  pub flights : b.timetable.flights ≡ c.timetable.flights

-- these are the tails of slice i, whichever seats and filings there are over the book's flights
abbrev pub AreTailsOver : Book → List Slice → ℕ → List Path → Type 0
AreTailsOver b slices i tails = (x : Book) → x.timetable.places ≡ b.timetable.places → x.timetable.flights ≡ b.timetable.flights → AreTails x slices i tails

-- Tails of a slice: each that ends where a fare is filed from a place or to it is among them.
pub record AreTailsFrom (b : Book) (q : Request) (from : Place) (slice : ℕ) (tails : List Path) : Type 0 where
  pub wanted : Place → Bool
  pub tails_to : (c : Book) → SamePlan c b → TailsTo c q.slices slice wanted tails
  pub others : (place : Place) → wanted place ≡ false → HasNoFares b from place

-- tails of the slice after the position's: each that ends where a fare is filed from the position's place or to it is among them
abbrev pub AreFareTails : Book → Request → Position → List Path → Type 0
AreFareTails b q at tails = AreTailsFrom b q at.place (at.slice + 1) tails

-- the flights end at the place of this number
pub record EndsAt (places : List Place) (end : ℕ) (fs : List Flight) : Type 0 where
  pub place : Place
  pub stands : slice_get places end ≡ Some place
  pub ends : OnLast (λ f. f.to ≡ place) fs

-- each of these tails ends at the place of its number
abbrev pub AreEndsOf : Book → List Path → List Place → List ℕ → Type 0
AreEndsOf b tails places ends = Matched (λ (t : Path) end. (fs : List Flight) → Numbers b t.flights fs → fs ≢ [] → EndsAt places end fs) tails ends

abbrev pub AreEnds : Book → List Path → TailEnds → Type 0
AreEnds b tails ends = AreEndsOf b tails ends.places.keys ends.of.items

-- what is said of each end holds: one that is not wanted has no fares
abbrev pub AreWanted : Book → Place → List Place → List Bool → Type 0
AreWanted b from ends wanted = Matched (λ end w. w ≡ false → HasNoFares b from end) ends wanted

-- These are places in a list of the numbers of ends, in order, and among them is each whose end is wanted.
pub record AreNumbersTo (wanted : List Bool) (ends numbers : List ℕ) : Type 0 where
  pub in_order : EachPair (λ m n. m < n) numbers
  pub within : Each (λ n. n < length ends) numbers
  pub all : (n end : ℕ) → slice_get ends n ≡ Some end → slice_get wanted end ≡ Some true → IsIn n numbers
