-- The tails of a slice by classes.
use Rattle.std.specs.Prelude.{◌≡◌, ◌≤◌, ◌<◌, ℕ, List, length, slice_get, Some, IsBitSet}
use Rattle.fare_ends.specs.Ends.{IsRange, between}
use Rattle.fare_ends.specs.Legs.{HasLegs}
use Rattle.fare_law.specs.declared.flights.Flight.{Flight}
use Rattle.fare_law.specs.declared.requests.Request.{Request}
use Rattle.fare_law.specs.Book.{Book}
use Rattle.fare_law.specs.Lists.{Each, IsIn, OnFirst, OnLast}
use Rattle.fare_law.specs.Parts.{Numbers}
use Rattle.flight_paths.specs.declared.positions.Path.{Path}
use Rattle.flight_paths.specs.Marks.{HasBits}
use Rattle.flight_paths.specs.Ways.{arrivals_of}
use Rattle.joint_paths.specs.declared.tail_classes.JoinTail.{JoinTail}
use Rattle.joint_paths.specs.declared.tail_classes.TailClass.{TailClass}
use Rattle.joint_paths.specs.declared.tail_classes.TailClasses.{TailClasses}
use Rattle.joint_paths.specs.declared.tail_classes.TailEnd.{TailEnd}

-- a path of one to three flights of the book
pub record IsShortPath (b : Book) (p : Path) : Type 0 where
  pub flights : List Flight
  pub numbers : Numbers b p.flights flights
  pub some : 1 ≤ length p.flights
  pub few : length p.flights ≤ 3

-- What is known of a tail: where it stands, its first flight, how many it has, the classes of seats that are open in all of them, and the mark of the places where they arrive.
pub record IsJoinTail (b : Book) (q : Request) (paths : List Path) (t : JoinTail) : Type 0 where
  pub path : Path
  pub stands : slice_get paths t.number ≡ Some path
  pub short : IsShortPath b path
  pub first : OnFirst (λ n. n ≡ t.first) path.flights
  pub count : t.count ≡ length path.flights
  pub legs : (fs : List Flight) → Numbers b path.flights fs → HasLegs b q fs t.classes
  pub mark : (fs : List Flight) → Numbers b path.flights fs → HasBits t.mark (arrivals_of fs)

-- A tail is of a class: it leads where its first one leads, ends there, and its last flight departs on that day.
pub record IsTailOf (b : Book) (paths : List Path) (c : TailClass) (t : JoinTail) : Type 0 where
  pub path : Path
  pub stands : slice_get paths t.number ≡ Some path
  pub leads : path.after ≡ c.after
  pub ends : (fs : List Flight) → Numbers b path.flights fs → OnLast (λ f. (f.to ≡ c.end) × (f.day ≡ c.last)) fs

-- a class with its tails
pub record IsTailClass (b : Book) (q : Request) (paths : List Path) (tails : List JoinTail) (c : TailClass) : Type 0 where
  pub range : IsRange tails c.from c.to
  pub each : Each (λ t. IsJoinTail b q paths t × IsTailOf b paths c t) (between tails c.from c.to)

-- an end with its classes
pub record IsTailEnd (classes : List TailClass) (e : TailEnd) : Type 0 where
  pub range : IsRange classes e.from e.to
  pub each : Each (λ (c : TailClass). c.end ≡ e.place) (between classes e.from e.to)

-- a tail stands in a class of an end
pub record StandsInClass (known : TailClasses) (n : ℕ) : Type 0 where
  pub end : TailEnd
  pub end_in : IsIn end known.ends.items
  pub class : TailClass
  pub class_in : IsIn class (between known.classes.items end.from end.to)
  pub tail : JoinTail
  pub tail_in : IsIn tail (between known.tails.items class.from class.to)
  pub number : tail.number ≡ n

-- some class of seats is open in all flights of a path
pub record IsOpen (b : Book) (q : Request) (path : Path) : Type 0 where
  pub flights : List Flight
  pub numbers : Numbers b path.flights flights
  pub classes : ℕ
  pub legs : HasLegs b q flights classes
  pub class : ℕ
  pub low : class < 32
  pub open_class : IsBitSet classes class

-- The tails of a slice by classes, the classes by ends: each tail on which some class of seats is open stands in one.
pub record AreTailClasses (b : Book) (q : Request) (paths : List Path) (known : TailClasses) : Type 0 where
  pub classes : Each (IsTailClass b q paths known.tails.items) known.classes.items
  pub ends : Each (IsTailEnd known.classes.items) known.ends.items
  pub all : (n : ℕ) (path : Path) → slice_get paths n ≡ Some path → IsOpen b q path → StandsInClass known n
