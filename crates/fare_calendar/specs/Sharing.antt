-- Requests that share their moves.
use Rattle.std.specs.Prelude.{◌≡◌, ◌↔◌, ℕ, ◌≤◌, ◌<◌, List, [], ◌∷◌, slice_get, Some, None}
use Rattle.fare_law.specs.Book.{Book, flight_at}
use Rattle.fare_law.specs.Journey.{InWindow}
use Rattle.fare_law.specs.declared.flights.Flight.{Flight}
use Rattle.fare_law.specs.declared.requests.Request.{Request}
use Rattle.fare_law.specs.declared.requests.Slice.{Slice}
use Rattle.flight_paths.specs.declared.positions.Position.{Position}
use Rattle.flight_paths.specs.Positions.{before_slice}

-- the same slices, but for the window of the first
abbrev pub AreAlike : List Slice → List Slice → Type 0
AreAlike [] [] = Unit {0}
AreAlike [] (t ∷ ts) = ⊥
AreAlike (s ∷ ss) [] = ⊥
AreAlike (s ∷ ss) (t ∷ ts) = (t.from ≡ s.from) × (t.to ≡ s.to) × (ts ≡ ss)

-- the flights of the position's range that depart from its place are in the one window exactly where they are in the other
abbrev pub SameWindow : Book → Position → Slice → Slice → Type 0
SameWindow b at s t = (n : ℕ) (f : Flight) → at.lo ≤ n → n < at.hi → flight_at b n ≡ Some f → f.from ≡ at.place → InWindow s f ↔ InWindow t f

-- the position is that in which the journey of the request begins
abbrev pub IsFirst : Book → Request → Position → Type 0
IsFirst b q at = before_slice b 0 (slice_get q.slices 0) None ≡ Some at

-- the windows of the first slices have the same of the flights that may be first by the second request
abbrev pub SameWindows : Book → Request → Request → Type 0
SameWindows b q r = (at : Position) (s t : Slice) → IsFirst b r at → slice_get q.slices 0 ≡ Some s → slice_get r.slices 0 ≡ Some t → SameWindow b at s t

-- The requests differ at most in the window of the first slice, and in how many tickets are asked.
pub record IsLike (q r : Request) : Type 0 where
  pub sale : r.sale ≡ q.sale
  pub party : r.party ≡ q.party
  pub slices : AreAlike q.slices r.slices

-- Where the journey of the second request begins, both have the same moves.
pub record SharesMoves (b : Book) (q r : Request) : Type 0 where
  pub like : IsLike q r
  pub windows : SameWindows b q r

-- where no flight is taken yet, the journey of the request begins
abbrev pub IsPlaced : Book → Request → Position → Type 0
IsPlaced b r at = at.slice ≡ 0 → at.leg ≡ 0 → IsFirst b r at
