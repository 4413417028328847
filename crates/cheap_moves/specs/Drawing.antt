-- What was drawn of a residual's moves on the paths that were seen so far.
use Rattle.std.specs.Prelude.{◌≡◌, ◌≢◌, ◌⊎◌, ℕ, ◌+◌, Bool, List, ◌++◌, Option, None, Some}
use Rattle.cheap_moves.specs.declared.drawing.Drawn.{Drawn}
use Rattle.cheap_moves.specs.declared.hopes.Hopes.{Hopes}
use Rattle.cheap_moves.specs.declared.hopes.PathClass.{PathClass}
use Rattle.cheap_moves.specs.declared.hopes.PathStart.{PathStart}
use Rattle.cheap_moves.specs.Hopes.{AreHopes}
use Rattle.cheap_moves.specs.LeastMoves.{AreKept, CountsOn, IsSooner, counted}
use Rattle.cheap_moves.specs.Making.{IsWithinOn, Of}
use Rattle.cheap_moves.specs.Sought.{AreEnding}
use Rattle.cheap_moves.specs.Within.{CountsWithin, IsMoveWithin}
use Rattle.fare_law.specs.declared.flights.Flight.{Flight}
use Rattle.fare_law.specs.declared.names.Place.{Place}
use Rattle.fare_law.specs.declared.requests.Request.{Request}
use Rattle.fare_law.specs.Book.{Book}
use Rattle.fare_law.specs.Lists.{AllDifferent, HasMany, IsIn, OnFirst}
use Rattle.flight_paths.specs.declared.positions.Path.{Path}
use Rattle.flight_paths.specs.Heads.{EndWanted}
use Rattle.residual_keys.specs.declared.residual.Chosen.{Chosen}
use Rattle.residual_keys.specs.Gathered.{IsPathOf}
use Rattle.residual_keys.specs.Residuals.{State}
use Rattle.residual_keys.specs.Steps.{IsChosen}

-- a path of the residual, over some flights
abbrev pub IsOwnPath : Book → Request → State → Path → Type 0
IsOwnPath b q r p = (fs : List Flight) × IsPathOf b q r p fs

-- A path of the residual that is none of those that were seen, which are paths of it as well.
pub record IsNext (b : Book) (q : Request) (r : State) (seen : List Path) (p : Path) : Type 0 where
  pub own : IsOwnPath b q r p
  pub each : (y : Path) → IsIn y seen → IsOwnPath b q r y
  pub other : (y : Path) → IsIn y seen → y ≢ p

-- Paths of the residual, each once, and none of those that were seen.
pub record AreNext (b : Book) (q : Request) (r : State) (seen paths : List Path) : Type 0 where
  pub once : AllDifferent (seen ++ paths)
  pub each : (p : Path) → IsIn p (seen ++ paths) → IsOwnPath b q r p

-- as many moves as are wanted come before this one, on paths that were seen
abbrev pub IsBeyond : Book → Request → State → (State → Option ℕ) → Option ℕ → ℕ → List Path → Chosen → Type 0
IsBeyond b q r bound first wanted seen c = HasMany wanted (λ n. CountsOn b q r bound first seen n × IsSooner n (counted bound c))

-- These are paths of the residual that begin with flights of such numbers, each once. Each move that begins so and is within the first limit is on one of them, or beyond those on paths that were seen.
pub record ArePassed (b : Book) (q : Request) (r : State) (bound : State → Option ℕ) (first : Option ℕ) (wanted : ℕ) (seen : List Path) (Such : ℕ → Type 0) (paths : List Path) : Type 0 where
  pub once : AllDifferent paths
  pub begin : (p : Path) → IsIn p paths → OnFirst Such p.flights
  pub each : (p : Path) → IsIn p paths → IsOwnPath b q r p
  pub all : (c : Chosen) → IsMoveWithin b q r bound first c → OnFirst Such c.mv.flights → Of (IsWithinOn b q r bound first) paths c ⊎ IsBeyond b q r bound first wanted seen c

-- Each move within the first limit ends where the tails of these numbers are all, or is beyond those on paths that were seen.
pub record AreTailsFor (b : Book) (q : Request) (r : State) (bound : State → Option ℕ) (first : Option ℕ) (wanted : ℕ) (seen tails : List Path) (numbers : List ℕ) : Type 0 where
  pub at_end : Place → Bool
  pub ending : AreEnding b q.slices (r.at.slice + 1) at_end tails numbers
  pub moves : (c : Chosen) (k : IsChosen b q r c) → CountsWithin bound first c → EndWanted at_end k.flights ⊎ IsBeyond b q r bound first wanted seen c

-- The hopes within the limit, or none where it is the first.
abbrev pub AreSunk : (PathStart → PathStart → Bool) → (Place → Place → Bool) → (PathClass → PathClass → Bool) → Book → Request → State → (State → Option ℕ) → Option ℕ → Option ℕ → Option Hopes → Type 0
AreSunk same_start same_place same_class b q r bound first limit None = limit ≡ first
AreSunk same_start same_place same_class b q r bound first limit (Some h) = AreHopes same_start same_place same_class b q r bound limit h

-- The first moves on the paths that were seen are kept, and what is looked for still is within the limit.
pub record IsDrawn (same_start : PathStart → PathStart → Bool) (same_place : Place → Place → Bool) (same_class : PathClass → PathClass → Bool) (b : Book) (q : Request) (r : State) (bound : State → Option ℕ) (first : Option ℕ) (wanted : ℕ) (seen : List Path) (d : Drawn) : Type 0 where
  pub kept : AreKept (CountsOn b q r bound first seen) wanted first d.kept.items d.limit
  pub hopes : AreSunk same_start same_place same_class b q r bound first d.limit d.sunk
