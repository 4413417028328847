-- What comes of a request in a version. The crates above say it of their own records by these words.
use Rattle.std.specs.Prelude.{ℕ, List, map, Option, None, Some}
use Rattle.fare_law.specs.Best.{Best, Costs}
use Rattle.fare_law.specs.Book.{Book}
use Rattle.fare_law.specs.Lists.{Each}
use Rattle.fare_law.specs.declared.requests.Request.{Request}
use Rattle.fare_law.specs.declared.tickets.Priced.{Priced}
use Rattle.residual_keys.specs.Searches.{ReachesMoreThan}

-- These are the best tickets of the request, each at what it costs, and no more residuals are reached than the budget.
pub record AreBest (b : Book) (q : Request) (budget : ℕ) (tickets : List Priced) : Type 0 where
  pub best : Best b q (map (λ t. t.ticket) tickets)
  pub prices : Each (λ t. Costs t.ticket b q t.price) tickets
  pub small : ReachesMoreThan budget b q → ⊥

-- The outcome of a request in a version: its best tickets, or none where more residuals are reached than the budget.
abbrev pub IsOutcome : Book → Request → ℕ → Option (List Priced) → Type 0
IsOutcome b q budget (Some tickets) = AreBest b q budget tickets
IsOutcome b q budget None = ReachesMoreThan budget b q
