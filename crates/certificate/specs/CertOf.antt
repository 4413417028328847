-- The certificate of a search, and what a certificate is worth.
use Rattle.std.specs.Prelude.{◌≡◌, ◌↔◌, ◌≤◌, List, map, Some, slice_get}
use Rattle.certificate.specs.AnswerCheck.{AnswerIs, run_of}
use Rattle.certificate.specs.declared.parts.CertRow.{CertRow}
use Rattle.certificate.specs.declared.parts.Certificate.{Certificate}
use Rattle.certificate.specs.Checks.{Checks}
use Rattle.certificate.specs.RequestCheck.{IsOf}
use Rattle.fare_law.specs.declared.requests.Request.{Request}
use Rattle.fare_law.specs.declared.requests.Slice.{Slice}
use Rattle.fare_law.specs.declared.tickets.Ticket.{Ticket}
use Rattle.fare_law.specs.Book.{Book}
use Rattle.fare_law.specs.Lists.{Each, Matched}
use Rattle.fare_law.specs.Best.{Best}
use Rattle.fare_law.specs.Limits.{HasKeys}
use Rattle.fare_law.specs.Flights.{Ascending}
use Rattle.residual_keys.specs.ResidualOrder.{StateBefore}
use Rattle.residual_keys.specs.Searches.{AreNeeded, BestRuns, Least}

-- The rows are the residuals that are needed, in order, each with the least price of a run from it.
pub record RowsAre (b : Book) (q : Request) (rows : List CertRow) : Type 0 where
  pub need : AreNeeded StateBefore b q (map (λ row. row.residual) rows)
  pub bounds : Each (λ row. Least b q row.residual row.bound) rows

-- The certificate of a search: the version and the request, the best tickets in order, and each residual that is needed.
pub record CertOf (b : Book) (q : Request) (c : Certificate) : Type 0 where
  pub of : IsOf c b q
  pub tickets : List Ticket
  pub best : Best b q tickets
  pub answers : Matched (AnswerIs b q) c.answers tickets
  pub rows : RowsAre b q c.rows

-- The same in words of runs: in place of the best tickets the least runs from the root.
pub record CertOfRuns (b : Book) (q : Request) (c : Certificate) : Type 0 where
  pub of : IsOf c b q
  pub runs : BestRuns b q q.best (map run_of c.answers)
  pub rows : RowsAre b q c.rows

abbrev pub SameByRuns : Certificate → Book → Request → Type 0
SameByRuns c b q = Ascending b.timetable.flights → (CertOf b q c ↔ CertOfRuns b q c)

-- Yes implies best: where the checks hold, the answers are the best tickets in order, at their prices.
abbrev pub YesIsBest : Certificate → Book → Request → Type 0
YesIsBest c b q = Checks c b q → (tickets : List Ticket) × Best b q tickets × Matched (AnswerIs b q) c.answers tickets

-- Yes fixes the answers.
abbrev pub SameAnswers : Book → Request → Type 0
SameAnswers b q = HasKeys b → (c d : Certificate) → Checks c b q → Checks d b q → c.answers ≡ d.answers

-- The certificate of a search meets the checks.
abbrev pub SearchMeetsChecks : Certificate → Book → Request → Type 0
SearchMeetsChecks c b q =
    Ascending b.timetable.flights → HasKeys b → 1 ≤ q.best → (first : Slice) → slice_get q.slices 0 ≡ Some first → CertOf b q c → Checks c b q

-- The certificate of a search is one.
abbrev pub OneCertificate : Book → Request → Type 0
OneCertificate b q = HasKeys b → (c d : Certificate) → CertOf b q c → CertOf b q d → c ≡ d
