-- The cells of a calendar.
use Rattle.std.specs.Prelude.{ℕ, pos, ◌≤◌, ◌<◌, ◌+ℤ◌, List, [], ◌∷◌}
use Rattle.fare_law.specs.Book.{Book}
use Rattle.fare_law.specs.Lawful.{Lawful}
use Rattle.fare_law.specs.Best.{Costs}
use Rattle.fare_law.specs.declared.requests.Request.{Request}
use Rattle.fare_law.specs.declared.requests.Slice.{Slice}
use Rattle.fare_law.specs.declared.tickets.Ticket.{Ticket}

-- the slice with a window of so many days from this many days later
abbrev pub in_days : Slice → ℕ → ℕ → Slice
in_days s later days = record s { first = s.first +ℤ pos later; days = days }

-- the slices of a request of two
abbrev pub two_slices : (Slice → Slice) → (Slice → Slice) → List Slice → List Slice
two_slices f g [] = []
two_slices f g (s ∷ []) = s ∷ []
two_slices f g (s ∷ t ∷ more) = f s ∷ g t ∷ more

-- the request of a cell
abbrev pub cell : Request → ℕ → ℕ → Request
cell q out back = record q { best = 1; slices = two_slices (λ s. in_days s out 1) (λ s. in_days s back 1) q.slices }

-- the request with windows of all the days
abbrev pub over_days : Request → ℕ → ℕ → Request
over_days q outs backs = record q { slices = two_slices (λ s. record s { days = outs }) (λ s. record s { days = backs }) q.slices }

-- some cell has the ticket
pub record CellHas (b : Book) (q : Request) (outs backs : ℕ) (t : Ticket) : Type 0 where
  pub out : ℕ
  pub back : ℕ
  pub out_within : out < outs
  pub back_within : back < backs
  pub lawful : Lawful t b (cell q out back)

-- the least price of the lawful tickets
pub record LeastPrice (b : Book) (q : Request) (price : ℕ) : Type 0 where
  pub ticket : Ticket
  pub lawful : Lawful ticket b q
  pub costs : Costs ticket b q price
  pub least : (t : Ticket) (other : ℕ) → Lawful t b q → Costs t b q other → price ≤ other

-- the least price of a cell, which no lawful ticket of any cell undercuts
pub record CellsLeast (b : Book) (q : Request) (outs backs price : ℕ) : Type 0 where
  pub out : ℕ
  pub back : ℕ
  pub out_within : out < outs
  pub back_within : back < backs
  pub has : LeastPrice b (cell q out back) price
  pub least : (i j : ℕ) (t : Ticket) (other : ℕ) → i < outs → j < backs → Lawful t b (cell q i j) → Costs t b (cell q i j) other → price ≤ other
