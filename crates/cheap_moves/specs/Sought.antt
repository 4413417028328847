-- The paths of a position that begin and end as it is wanted.
use Rattle.std.specs.Prelude.{◌≡◌, ℕ, ◌+◌, ◌<◌, Bool, true, List, length}
use Rattle.cheap_moves.specs.declared.paths.Opening.{Opening}
use Rattle.cheap_moves.specs.Tails.{SamePlan}
use Rattle.fare_law.specs.declared.flights.Flight.{Flight}
use Rattle.fare_law.specs.declared.names.Place.{Place}
use Rattle.fare_law.specs.declared.requests.Slice.{Slice}
use Rattle.fare_law.specs.Book.{Book}
use Rattle.fare_law.specs.Lists.{AllDifferent, Each, IsIn, OnFirst}
use Rattle.flight_paths.specs.declared.positions.Path.{Path}
use Rattle.flight_paths.specs.declared.positions.Position.{Position}
use Rattle.flight_paths.specs.Heads.{AreSomeTails, EndWanted, TailsTo, chosen}
use Rattle.flight_paths.specs.Marks.{AreMarks}
use Rattle.flight_paths.specs.Plans.{HasPlan}
use Rattle.flight_paths.specs.Positions.{IsPath}

-- the position from where the flight of this number alone leads on
abbrev pub narrowed : Position → ℕ → Position
narrowed at n = record { slice = at.slice; leg = at.leg; place = at.place; via = at.via; lo = n; hi = n + 1 }

-- a path of the position, over these flights
abbrev pub IsFrom : Book → List Slice → Position → Path → List Flight → Type 0
IsFrom b slices at p fs = IsPath b slices at p.flights fs p.after

-- the flights begin with a wanted one
abbrev pub StartWanted : (Flight → Bool) → List Flight → Type 0
StartWanted begun fs = OnFirst (λ f. begun f ≡ true) fs

-- These are paths of the position that begin with flights of such numbers, each once, and among them is each of these that begins with a wanted flight and ends at a wanted place.
pub record AreSoughtBy (b : Book) (slices : List Slice) (at : Position) (begun : Flight → Bool) (wanted : Place → Bool) (Such : ℕ → Type 0) (paths : List Path) : Type 0 where
  pub once : AllDifferent paths
  pub begin : (p : Path) → IsIn p paths → OnFirst Such p.flights
  pub each : (p : Path) → IsIn p paths → (fs : List Flight) × IsFrom b slices at p fs
  pub all : (p : Path) (fs : List Flight) → OnFirst Such p.flights → IsFrom b slices at p fs → StartWanted begun fs → EndWanted wanted fs → IsIn p paths

-- The tails are some of those of the slice after the position's.
pub record IsOpen (o : Opening) : Type 0 where
  pub known : o.position.now.slice < length o.request.now.slices
  pub marks : AreMarks o.schedule.now.flights o.tails.all.now o.tails.marks.now
  pub numbers : Each (λ n. n < length o.tails.all.now) o.tails.numbers.now
  pub tails : (b : Book) → HasPlan b o.schedule.now → AreSomeTails b o.request.now.slices (o.position.now.slice + 1) (chosen o.tails.all.now o.tails.numbers.now)

-- These are numbers of tails of slice i, and among them is that of each which ends at a wanted place.
pub record AreEnding (b : Book) (slices : List Slice) (i : ℕ) (wanted : Place → Bool) (tails : List Path) (numbers : List ℕ) : Type 0 where
  pub within : Each (λ n. n < length tails) numbers
  pub to : (c : Book) → SamePlan c b → TailsTo c slices i wanted (chosen tails numbers)
