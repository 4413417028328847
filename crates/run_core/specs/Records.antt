-- What is recorded of an answer.
use Rattle.std.specs.Prelude.{◌≡◌, ℕ, List, length, Option, None, Some}
use Rattle.fare_law.specs.declared.requests.Request.{Request}
use Rattle.fare_law.specs.declared.tickets.Priced.{Priced}
use Rattle.fare_law.specs.Book.{Book}
use Rattle.run_core.specs.Outcomes.{IsOutcome}
use Rattle.run_core.specs.declared.events.Outcome.{Outcome}
use Rattle.run_core.specs.declared.events.Outcome.TheVariants.{Tickets, TooLarge}
use Rattle.run_core.specs.declared.events.Recorded.{Recorded}

-- the tickets of an outcome, none where the search is too large
abbrev pub tickets_of : Outcome → Option (List Priced)
tickets_of (Tickets tickets) = Some tickets
tickets_of TooLarge = None

-- the record of a desk's answer from a version
pub record Records (b : Book) (desk : ℕ) (q : Request) (budget : ℕ) (r : Recorded) : Type 0 where
  pub desk_is : r.desk ≡ desk
  pub request_is : r.request ≡ q
  pub version_is : r.version ≡ length b.entries
  pub outcome_is : IsOutcome b q budget (tickets_of r.outcome)
