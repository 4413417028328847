-- What the cells of a calendar have to do with the best tickets over all their days.
use Rattle.std.specs.Prelude.{◌≡◌, ℕ, ◌≤◌, ◌<◌, List, [], ◌∷◌}
use Rattle.fare_calendar.specs.Cells.{CellsLeast, cell}
use Rattle.fare_law.specs.declared.requests.Request.{Request}
use Rattle.fare_law.specs.declared.tickets.Ticket.{Ticket}
use Rattle.fare_law.specs.Best.{Best, Costs}
use Rattle.fare_law.specs.Book.{Book}

-- The price of the first of the best tickets.
pub record FirstCosts (b : Book) (q : Request) (price : ℕ) : Type 0 where
  pub ticket : Ticket
  pub others : List Ticket
  pub best : Best b q (ticket ∷ others)
  pub costs : Costs ticket b q price

-- The least price of the cells' best tickets: some cell has a ticket, the cheapest of it is at this price, and no cell's
-- is cheaper.
pub record CellsCost (b : Book) (q : Request) (outs backs price : ℕ) : Type 0 where
  pub cells : CellsLeast b q outs backs price
  pub here : (other : ℕ) → FirstCosts b (cell q cells.out cells.back) other → other ≡ price
  pub least : (i j other : ℕ) → i < outs → j < backs → FirstCosts b (cell q i j) other → price ≤ other

-- no cell has a best ticket
abbrev pub CellsAreEmpty : Book → Request → ℕ → ℕ → Type 0
CellsAreEmpty b q outs backs = (i j : ℕ) → i < outs → j < backs → (best : List Ticket) → Best b (cell q i j) best → best ≡ []
