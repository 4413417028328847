-- How long runs are.
use Rattle.std.specs.Prelude.{◌≡◌, ◌⊎◌, ℕ, ◌+◌, ◌*◌, ◌≤◌, ◌<◌, List, length, flat_map, Option, Some, None}
use Rattle.fare_law.specs.declared.flights.Flight.{Flight}
use Rattle.fare_law.specs.declared.moves.Move.{Move}
use Rattle.fare_law.specs.declared.requests.Request.{Request}
use Rattle.fare_law.specs.declared.tickets.Piece.{Piece}
use Rattle.fare_law.specs.Book.{Book}
use Rattle.fare_law.specs.declared.limits.TheConstants.{MOST_COMPONENTS_OF_A_SLICE}
use Rattle.flight_paths.specs.declared.positions.Position.{Position}
use Rattle.flight_paths.specs.Positions.{Fits, Flies}
use Rattle.open_unit.specs.declared.units.OpenUnit.{OpenUnit}
use Rattle.residual_keys.specs.Residuals.{State, Moves, Run, RunFromRoot}
use Rattle.residual_keys.specs.Searches.{Reached}

-- the flights that three a slice leave behind a position, and behind the end of the journey
abbrev pub flights_before : Request → Option Position → ℕ
flights_before q None = 3 * length q.slices
flights_before q (Some at) = 3 * at.slice + at.leg

-- From slice s and leg m of n slices lead at most 3 (n - s) - m flights.
abbrev pub FliesFew : Book → Request → Type 0
FliesFew b q = (at : Position) (ns : List ℕ) (fs : List Flight) (end : Option Position) → Flies b q.slices (Some at) ns fs end → length ns + flights_before q (Some at) ≤ flights_before q end

-- the one position is in an earlier slice, or in the same slice with fewer flights taken
abbrev pub Earlier : Position → Position → Type 0
Earlier a c = (a.slice < c.slice) ⊎ ((a.slice ≡ c.slice) × (a.leg < c.leg))

-- Each move raises the slice or the leg.
abbrev pub MoveGoesOn : Book → Request → Type 0
MoveGoesOn b q = (x : State) (m : Move) (fs : List Flight) (p : Piece) (at : Position) (us : List OpenUnit) → Moves b q x m fs p (Some at) us → Earlier x.at at × (at.leg ≤ 2)

-- A run has at most three flights a slice, and no more moves than flights.
abbrev pub RunIsShort : Book → Request → Type 0
RunIsShort b q =
    (x : State) (ms : List Move) (price : ℕ) → Run b q x ms price
    → (length ms ≤ length (flat_map (λ m. m.flights) ms)) × (length (flat_map (λ m. m.flights) ms) + flights_before q (Some x.at) ≤ 3 * length q.slices)

-- A run from the root has no more moves than components may begin in its slices.
abbrev pub RootRunIsShort : Book → Request → Type 0
RootRunIsShort b q = (ms : List Move) (price : ℕ) → RunFromRoot b q ms price → length ms ≤ MOST_COMPONENTS_OF_A_SLICE * length q.slices

-- What a list of moves leads to from the root is a position of the request.
abbrev pub ReachedFits : Book → Request → Type 0
ReachedFits b q = (x : State) → Reached b q x → Fits b q.slices x.at
