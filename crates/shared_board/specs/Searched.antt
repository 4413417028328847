-- What a board of a search is to a contract. A pass is its board's slots and the slot whose node it holds.
use Rattle.std.specs.Prelude.{ℕ}
use Rattle.shared_board.specs.Holding.{SlotsView}
use Rattle.fare_law.specs.declared.requests.Request.{Request}
use Rattle.fare_law.specs.Book.{Book}

-- its slots with the number, and what is searched: a version, a request, and the most residuals that may be reached
pub record BoardView : Type 0 where
  pub slots : SlotsView
  pub book : Book
  pub request : Request
  pub budget : ℕ
