-- The paths of a position with the classes of seats that are open on them, as heads that land and as heads that cross with tails.
use Rattle.std.specs.Prelude.{◌≡◌, ◌⊎◌, ◌↔◌, List, ◌++◌}
use Rattle.fare_law.specs.declared.flights.Flight.{Flight}
use Rattle.fare_law.specs.declared.requests.Request.{Request}
use Rattle.fare_law.specs.Book.{Book}
use Rattle.fare_law.specs.Parts.{Numbers}
use Rattle.flight_paths.specs.declared.positions.Path.{Path}
use Rattle.flight_paths.specs.declared.positions.Position.{Position}
use Rattle.flight_paths.specs.Heads.{IsHead, IsJoined}
use Rattle.flight_paths.specs.Positions.{IsPath}
use Rattle.fare_ends.specs.Floors.{OpenPath}
use Rattle.fare_ends.specs.Legs.{HasLegs}

-- a path of the position, with the classes that are open on it
pub record IsOpenPath (b : Book) (q : Request) (at : Position) (path : Path) (p : OpenPath) : Type 0 where
  pub path_is : IsPath b q.slices at path.flights p.flights path.after
  pub legs : HasLegs b q p.flights p.classes

-- one that is a head
pub record IsLandedPath (b : Book) (q : Request) (at : Position) (path : Path) (p : OpenPath) : Type 0 where
  pub head : IsHead b q.slices at path.flights p.flights path.after
  pub legs : HasLegs b q p.flights p.classes

-- one that is a head that crosses and a tail that may follow it
pub record IsCrossingPath (b : Book) (q : Request) (at : Position) (path : Path) (p : OpenPath) : Type 0 where
  pub head : Path
  pub tail : Path
  pub joined : IsJoined b q.slices at head tail path
  pub head_flights : List Flight
  pub head_numbers : Numbers b head.flights head_flights
  pub tail_flights : List Flight
  pub tail_numbers : Numbers b tail.flights tail_flights
  pub flights : p.flights ≡ head_flights ++ tail_flights
  pub legs : HasLegs b q p.flights p.classes

-- Each path of a position is a head, or a head that crosses and a tail that may follow it; and each of these is one.
abbrev pub LandsOrCrosses : Type 0
LandsOrCrosses = (b : Book) (q : Request) (at : Position) (path : Path) (p : OpenPath) → IsOpenPath b q at path p ↔ (IsLandedPath b q at path p ⊎ IsCrossingPath b q at path p)
