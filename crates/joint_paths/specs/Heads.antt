-- Heads that cross, and buckets of them.
use Rattle.std.specs.Prelude.{◌≡◌, ◌≤◌, ◌<◌, ◌^◌, ℕ, ℤ, suc, List, ◌∷◌, length, slice_get, Some, take, bit_and}
use Rattle.fare_ends.specs.Legs.{HasLegs}
use Rattle.fare_ends.specs.Legs.{AreAmong}
use Rattle.fare_law.specs.declared.flights.Flight.{Flight}
use Rattle.fare_law.specs.declared.names.Carrier.{Carrier}
use Rattle.fare_law.specs.declared.requests.Request.{Request}
use Rattle.fare_law.specs.Book.{Book}
use Rattle.fare_law.specs.Lists.{Each, IsIn, OnFirst}
use Rattle.fare_law.specs.Parts.{Numbers}
use Rattle.flight_paths.specs.declared.positions.Path.{Path}
use Rattle.flight_paths.specs.declared.positions.Position.{Position}
use Rattle.flight_paths.specs.Heads.{AreTails, Crossing, Follows}
use Rattle.flight_paths.specs.Marks.{HasBits, place_bit}
use Rattle.flight_paths.specs.Ways.{arrivals_of}
use Rattle.joint_paths.specs.declared.buckets.Bucket.{Bucket}
use Rattle.joint_paths.specs.declared.buckets.Reach.{Reach}
use Rattle.joint_paths.specs.declared.crossing_heads.CrossingHead.{CrossingHead}
use Rattle.joint_paths.specs.declared.tail_classes.JoinTail.{JoinTail}

-- What is known of a head that crosses: its flights' numbers, when it may go on, the classes of seats that are open in all of its flights, the mark of the places that it calls at, and its carrier and day.
pub record IsCrossingHead (b : Book) (q : Request) (at : Position) (path : Path) (h : CrossingHead) : Type 0 where
  pub middle : Position
  pub crosses : Crossing b q.slices at path middle
  pub few : h.count ≤ 3
  pub count : h.count ≡ length path.flights
  pub numbers : path.flights ≡ take h.count h.flights
  pub lo : h.lo ≡ middle.lo
  pub hi : h.hi ≡ middle.hi
  pub legs : (fs : List Flight) → Numbers b path.flights fs → HasLegs b q fs h.classes
  pub mark : (fs : List Flight) → Numbers b path.flights fs → HasBits h.mark (at.place ∷ arrivals_of fs)
  pub first : (fs : List Flight) → Numbers b path.flights fs → OnFirst (λ f. (f.carrier ≡ h.carrier) × (f.day ≡ h.first)) fs

-- the flights of a head
abbrev pub HeadFlies : Book → CrossingHead → List Flight → Type 0
HeadFlies b h fs = Numbers b (take h.count h.flights) fs

-- a head of the position that crosses, of this carrier and this first day
pub record IsHeadOf (b : Book) (q : Request) (at : Position) (carrier : Carrier) (first : ℤ) (h : CrossingHead) : Type 0 where
  pub path : Path
  pub is : IsCrossingHead b q at path h
  pub carrier_is : h.carrier ≡ carrier
  pub first_is : h.first ≡ first

-- each head of at most so many flights stands before the end, and goes on from the low number on
pub record IsReach (heads : List CrossingHead) (count : ℕ) (r : Reach) : Type 0 where
  pub within : r.end ≤ length heads
  pub each : (n : ℕ) (h : CrossingHead) → slice_get heads n ≡ Some h → h.count ≤ count → (n < r.end) × (r.low ≤ h.lo)

-- Heads of a position that cross, of one carrier and one first day, with the tails of the next slice.
pub record IsBucket (k : Bucket) : Type 0 where
  pub tails : AreTails k.case.now.book.now k.case.now.request.now.slices (suc k.at.now.slice) k.paths.now
  pub heads : Each (IsHeadOf k.case.now.book.now k.case.now.request.now k.at.now k.carrier k.first) k.heads.now
  pub mark : k.mark ≡ 2 ^ place_bit k.at.now.place
  pub classes : (h : CrossingHead) → IsIn h k.heads.now → AreAmong h.classes k.classes
  pub one : IsReach k.heads.now 1 k.one
  pub two : IsReach k.heads.now 2 k.two
  pub three : IsReach k.heads.now 3 k.three

-- the tail may follow the head
pub record FollowsOn (k : Bucket) (h : CrossingHead) (t : JoinTail) : Type 0 where
  pub head_path : Path
  pub head_is : IsCrossingHead k.case.now.book.now k.case.now.request.now k.at.now head_path h
  pub tail_path : Path
  pub stands : slice_get k.paths.now t.number ≡ Some tail_path
  pub follows : Follows k.case.now.book.now k.case.now.request.now.slices k.at.now head_path tail_path

-- these classes of seats are among others, wherever they are open on a head and on the tail that may follow it
abbrev pub HasOpen : Bucket → JoinTail → ℕ → Type 0
HasOpen k t classes = (h : CrossingHead) → IsIn h k.heads.now → FollowsOn k h t → AreAmong (bit_and h.classes t.classes) classes
