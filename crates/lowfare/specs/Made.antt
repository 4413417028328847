-- What the command `make` makes: the made case, or the summary of its search.
use Rattle.std.specs.Prelude.{◌≡◌, ℕ, Bool, true, false, List, [], ◌∷◌, length, Option, None, Some, option_map, slice_get}
use Rattle.case_maker.specs.MadeCase.{made_case}
use Rattle.case_maker.specs.SummaryLine.{summary_line}
use Rattle.case_maker.specs.declared.summary.Summary.{Summary}
use Rattle.certificate.specs.CertOf.{CertOf}
use Rattle.certificate.specs.Checks.{Checks}
use Rattle.certificate.specs.declared.parts.Certificate.{Certificate}
use Rattle.fare_law.specs.Best.{Best, Costs}
use Rattle.fare_law.specs.Book.{Book}
use Rattle.fare_law.specs.declared.requests.Request.{Request}
use Rattle.fare_law.specs.declared.tickets.Ticket.{Ticket}
use Rattle.lowfare.specs.Cases.{ExceedsBudget, FitsBudget}
use Rattle.lowfare.specs.Searches.{IsTooLarge}
use Rattle.lowfare.specs.declared.status.Status.{Status}
use Rattle.lowfare.specs.declared.status.Status.TheVariants.{Done, TooLarge}
use Rattle.search_core.specs.declared.outcome.Answer.{Answer}
use Rattle.whole_case.specs.declared.search.SearchCase.{SearchCase}

-- how many residuals the search of a summary may reach
abbrev pub default_budget : ℕ
default_budget = 100000

-- the price of the first ticket, if there is one
abbrev pub FirstCosts : Book → Request → List Ticket → Option ℕ → Type 0
FirstCosts b q [] price = price ≡ None
FirstCosts b q (ticket ∷ others) price = (cost : ℕ) × Costs ticket b q cost × (price ≡ Some cost)

-- what is told of a made case and of the answer of its search
abbrev pub summary_of : ℕ → ℕ → SearchCase → Answer → Summary
summary_of seed size found answer = record {
  seed = seed;
  size = size;
  flights = length found.book.timetable.flights;
  residuals = length answer.certificate.rows;
  tickets = length answer.tickets;
  cheapest = option_map (λ t. t.price) (slice_get answer.tickets 0);
}

-- The line sums up the best tickets of the case and the certificate of its search, which meets the checks and has a row for each residual.
pub record SumsUp (seed size : ℕ) (found : SearchCase) (text : List ℕ) : Type 0 where
  pub tickets : List Ticket
  pub best : Best found.book found.request tickets
  pub certificate : Certificate
  pub made : CertOf found.book found.request certificate
  pub meets : Checks certificate found.book found.request
  pub cheapest : Option ℕ
  pub costs : FirstCosts found.book found.request tickets cheapest
  pub whole : text ≡ summary_line (record {
    seed = seed;
    size = size;
    flights = length found.book.timetable.flights;
    residuals = length certificate.rows;
    tickets = length tickets;
    cheapest = cheapest;
  })

-- The made case is one within the budget, and the text sums up its search.
pub record Summarizes (seed size : ℕ) (text : List ℕ) : Type 0 where
  pub case : FitsBudget None default_budget None (made_case seed size)
  pub sums : SumsUp seed size case.found text

-- the text that `make` makes: the made case, or what a search of the made case comes to
abbrev pub MakesCase : ℕ → ℕ → Bool → Status → List ℕ → Type 0
MakesCase seed size false Done text = text ≡ made_case seed size
MakesCase seed size true Done text = Summarizes seed size text
MakesCase seed size true TooLarge text = IsTooLarge None default_budget None (made_case seed size) text
MakesCase seed size is_summary status text = ⊥

-- what the made case is, where `make` is to end with this status
abbrev pub OwesCase : ℕ → ℕ → Bool → Status → Type 0
OwesCase seed size false Done = Unit {0}
OwesCase seed size true Done = FitsBudget None default_budget None (made_case seed size)
OwesCase seed size true TooLarge = ExceedsBudget None default_budget None (made_case seed size)
OwesCase seed size is_summary status = ⊥
