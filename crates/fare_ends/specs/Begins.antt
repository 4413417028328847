-- What begins at a position with one flight.
use Rattle.std.specs.Prelude.{◌≡◌, ◌≢◌, ◌↔◌, ◌≤◌, ◌<◌, ℕ, suc, List, ◌∷◌, Option, None, IfSome, Some, slice_get}
use Rattle.fare_law.specs.declared.flights.Flight.{Flight}
use Rattle.fare_law.specs.declared.requests.Slice.{Slice}
use Rattle.fare_law.specs.Book.{Book}
use Rattle.flight_paths.specs.declared.positions.Position.{Position}
use Rattle.flight_paths.specs.Positions.{IsPath}

-- the position that takes one flight alone
abbrev pub narrowed : Position → ℕ → Position
narrowed at n = record { slice = at.slice; leg = at.leg; place = at.place; via = at.via; lo = n; hi = suc n }

-- and that, whichever place was called at first
abbrev pub shared : Position → ℕ → Position
shared at n = record { slice = at.slice; leg = at.leg; place = at.place; via = None; lo = n; hi = suc n }

-- No place was called at first, or the third flight is to be taken, which ends the slice elsewhere.
abbrev pub IsShared : Slice → Position → Type 0
IsShared s at = IfSome at.via (λ via. (at.leg ≡ 2) × (via ≢ s.to))

-- The paths that begin with a flight of a position's range are those of the position that takes this flight alone.
abbrev pub BeginsNarrowed : Type 0
BeginsNarrowed = (b : Book) (slices : List Slice) (at : Position) (n : ℕ) (ns : List ℕ) (fs : List Flight) (next : Option Position) → at.lo ≤ n → n < at.hi → IsPath b slices at (n ∷ ns) fs next ↔ IsPath b slices (narrowed at n) (n ∷ ns) fs next

-- And where they hang on no place that was called at first, each position that takes the flight at this leg has the same.
abbrev pub BeginsShared : Type 0
BeginsShared = (b : Book) (slices : List Slice) (at : Position) (s : Slice) → slice_get slices at.slice ≡ Some s → IsShared s at → (n : ℕ) (ns : List ℕ) (fs : List Flight) (next : Option Position)
    → IsPath b slices (narrowed at n) ns fs next ↔ IsPath b slices (shared at n) ns fs next

-- the position that takes a flight alone at a leg of a slice, where it departs
abbrev pub of_flight : ℕ → ℕ → ℕ → Flight → Position
of_flight slice leg n f = record { slice = slice; leg = leg; place = f.from; via = None; lo = n; hi = suc n }

-- So what begins with a flight of a position's range that departs there is what begins with the flight at this leg of the slice.
abbrev pub BeginsAlone : Type 0
BeginsAlone = (b : Book) (slices : List Slice) (at : Position) (s : Slice) → slice_get slices at.slice ≡ Some s → IsShared s at → (n : ℕ) (f : Flight) → f.from ≡ at.place → at.lo ≤ n → n < at.hi → (ns : List ℕ) (fs : List Flight) (next : Option Position)
    → IsPath b slices at (n ∷ ns) fs next ↔ IsPath b slices (of_flight at.slice at.leg n f) (n ∷ ns) fs next
