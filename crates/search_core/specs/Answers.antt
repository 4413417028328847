-- What a search answers, and why it does not.
use Rattle.std.specs.Prelude.{◌≡◌, ℕ, length, map, Option, None, Some}
use Rattle.certificate.specs.AnswerCheck.{AnswerIs}
use Rattle.certificate.specs.CertOf.{CertOf}
use Rattle.certificate.specs.declared.parts.CertAnswer.{CertAnswer}
use Rattle.certificate.specs.declared.parts.CertRow.{CertRow}
use Rattle.fare_law.specs.declared.requests.Request.{Request}
use Rattle.fare_law.specs.declared.tickets.Priced.{Priced}
use Rattle.fare_law.specs.Best.{Best, Costs}
use Rattle.fare_law.specs.Book.{Book}
use Rattle.fare_law.specs.Lists.{Each}
use Rattle.fare_law.specs.Requests.{judged, known_places}
use Rattle.residual_keys.specs.Residuals.{State}
use Rattle.residual_keys.specs.Searches.{ReachesMoreThan}
use Rattle.search_core.specs.declared.outcome.Answer.{Answer}
use Rattle.search_core.specs.declared.outcome.SearchFault.{SearchFault}
use Rattle.search_core.specs.declared.outcome.SearchFault.TheVariants.{BadRequest, TooLarge, Mem}

-- The answer of a search: the version's number, the best tickets in order, each at what it costs, and the certificate.
pub record IsAnswer (b : Book) (q : Request) (a : Answer) : Type 0 where
  pub number : a.number ≡ length b.entries
  pub best : Best b q (map (λ t. t.ticket) a.tickets)
  pub prices : Each (λ t. Costs t.ticket b q t.price) a.tickets
  pub certificate : CertOf b q a.certificate

-- The request is right, and no more residuals are reached than this many: so it is where a search has an answer.
pub record Searchable (b : Book) (q : Request) (budget : ℕ) : Type 0 where
  pub right : judged (known_places b) q ≡ None
  pub small : ReachesMoreThan budget b q → ⊥

-- Why there is no answer: the first reason that the request gives, or, of a request that is right, that more residuals are reached than the budget.
abbrev pub HasCause : Book → Request → ℕ → SearchFault → Type 0
HasCause b q budget (BadRequest why) = judged (known_places b) q ≡ Some why
HasCause b q budget TooLarge = (judged (known_places b) q ≡ None) × ReachesMoreThan budget b q
HasCause b q budget Mem = Unit {0}

-- The ticket of a run: lawful, with its moves, at its price.
pub record IsPriced (b : Book) (q : Request) (run : CertAnswer) (t : Priced) : Type 0 where
  pub ticket : AnswerIs b q run t.ticket
  pub price : t.price ≡ run.price

-- a row as a node of a graph
abbrev pub node_of : CertRow → State × Option ℕ
node_of row = (row.residual, row.bound)
