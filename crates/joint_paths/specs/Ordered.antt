-- Tails in order, and the classes and ends that they make.
use Rattle.std.specs.Prelude.{◌≡◌, ◌≤◌, ◌<◌, ℕ, List, ◌++◌, Some, length, map, slice_get}
use Rattle.std.specs.List.Sorted.{IsPermutation}
use Rattle.fare_ends.specs.Ends.{IsRange, between}
use Rattle.fare_ends.specs.Legs.{HasLegs}
use Rattle.fare_law.specs.declared.flights.Flight.{Flight}
use Rattle.fare_law.specs.declared.requests.Request.{Request}
use Rattle.fare_law.specs.Book.{Book}
use Rattle.fare_law.specs.Lists.{Each, IsIn, OnFirst, OnLast}
use Rattle.fare_law.specs.Parts.{Numbers}
use Rattle.flight_paths.specs.declared.positions.Path.{Path}
use Rattle.flight_paths.specs.Marks.{HasBits}
use Rattle.flight_paths.specs.Ways.{arrivals_of}
use Rattle.joint_paths.specs.declared.tail_classes.NumberedPath.{NumberedPath}
use Rattle.joint_paths.specs.declared.tail_classes.OrderedTail.{OrderedTail}
use Rattle.joint_paths.specs.declared.tail_classes.TailClass.{TailClass}
use Rattle.joint_paths.specs.declared.tail_classes.TailClasses.{TailClasses}
use Rattle.joint_paths.specs.declared.tail_classes.TailEnd.{TailEnd}
use Rattle.joint_paths.specs.Tails.{IsOpen, IsShortPath, IsTailEnd}

-- the tail is of the class of another
pub record IsBeside (one other : OrderedTail) : Type 0 where
  pub end : one.end ≡ other.end
  pub last : one.last ≡ other.last
  pub after : one.after ≡ other.after

-- What is known of a tail, and where it leads and ends, and the day of its last flight.
pub record IsOrdered (b : Book) (q : Request) (t : NumberedPath) (o : OrderedTail) : Type 0 where
  pub number : o.tail.number ≡ t.number
  pub first : OnFirst (λ n. n ≡ o.tail.first) t.path.now.flights
  pub count : o.tail.count ≡ length t.path.now.flights
  pub legs : (fs : List Flight) → Numbers b t.path.now.flights fs → HasLegs b q fs o.tail.classes
  pub mark : (fs : List Flight) → Numbers b t.path.now.flights fs → HasBits o.tail.mark (arrivals_of fs)
  pub leads : t.path.now.after ≡ o.after
  pub ends : (fs : List Flight) → Numbers b t.path.now.flights fs → OnLast (λ f. (f.to ≡ o.end) × (f.day ≡ o.last)) fs

-- a tail was added, if some class of seats is open on it
pub record AddsOrdered (b : Book) (q : Request) (t : NumberedPath) (old new : List OrderedTail) : Type 0 where
  pub more : List OrderedTail
  pub joined : new ≡ old ++ more
  pub each : Each (IsOrdered b q t) more
  pub has : IsOpen b q t.path.now → (o : OrderedTail) × IsIn o more

-- What is known of a tail of some paths, by its number, and where it leads and ends.
pub record StandsOrdered (b : Book) (q : Request) (paths : List Path) (o : OrderedTail) : Type 0 where
  pub path : Path
  pub stands : slice_get paths o.tail.number ≡ Some path
  pub short : IsShortPath b path
  pub first : OnFirst (λ n. n ≡ o.tail.first) path.flights
  pub count : o.tail.count ≡ length path.flights
  pub legs : (fs : List Flight) → Numbers b path.flights fs → HasLegs b q fs o.tail.classes
  pub mark : (fs : List Flight) → Numbers b path.flights fs → HasBits o.tail.mark (arrivals_of fs)
  pub leads : path.after ≡ o.after
  pub ends : (fs : List Flight) → Numbers b path.flights fs → OnLast (λ f. (f.to ≡ o.end) × (f.day ≡ o.last)) fs

-- each of the first so many paths that is open has a tail
abbrev pub AllOrdered : Book → Request → List Path → ℕ → List OrderedTail → Type 0
AllOrdered b q paths count ordered = (n : ℕ) (path : Path) → n < count → slice_get paths n ≡ Some path → IsOpen b q path → (o : OrderedTail) × IsIn o ordered × (o.tail.number ≡ n)

-- these are tails of some paths, and each path that is open has one
pub record AreOrderedTails (b : Book) (q : Request) (paths : List Path) (ordered : List OrderedTail) : Type 0 where
  pub each : Each (StandsOrdered b q paths) ordered
  pub all : AllOrdered b q paths (length paths) ordered

-- a class of tails that stand one after another
pub record IsClassInOrder (ordered : List OrderedTail) (c : TailClass) : Type 0 where
  pub range : IsRange ordered c.from c.to
  pub each : Each (λ (o : OrderedTail). (o.after ≡ c.after) × (o.end ≡ c.end) × (o.last ≡ c.last)) (between ordered c.from c.to)

-- each tail stands in one of these classes
pub record AreClassesInOrder (ordered : List OrderedTail) (classes : List TailClass) : Type 0 where
  pub each : Each (IsClassInOrder ordered) classes
  pub all : (n : ℕ) → n < length ordered → (c : TailClass) × IsIn c classes × (c.from ≤ n) × (n < c.to)

-- each class stands at one of these ends
pub record AreEndsInOrder (classes : List TailClass) (ends : List TailEnd) : Type 0 where
  pub each : Each (IsTailEnd classes) ends
  pub all : (n : ℕ) → n < length classes → (e : TailEnd) × IsIn e ends × (e.from ≤ n) × (n < e.to)

-- the classes are those of some tails, put in order
pub record AreMadeOf (before : List OrderedTail) (known : TailClasses) : Type 0 where
  pub ordered : List OrderedTail
  pub order : IsPermutation before ordered
  pub tails : known.tails.items ≡ map (λ (o : OrderedTail). o.tail) ordered
  pub classes : AreClassesInOrder ordered known.classes.items
  pub ends : AreEndsInOrder known.classes.items known.ends.items
