-- What a book answers, by the status of the reply, in the words in which the program's commands are told of.
use Rattle.std.specs.Prelude.{◌≡◌, ◌⊎◌, ℕ, List, Option, None, Some, Ok, codes}
use Rattle.certificate.specs.Checks.{Checks, FirstFailure}
use Rattle.fare_calendar.specs.declared.spans.Spans.{Spans}
use Rattle.fare_law.specs.Book.{Book}
use Rattle.fare_law.specs.declared.requests.Request.{Request}
use Rattle.lowfare.specs.Calendars.{TellsCells}
use Rattle.lowfare.specs.Checked.{TellsYes, no_text}
use Rattle.lowfare.specs.Refusals.{IsRefused}
use Rattle.lowfare.specs.Searches.{TellsBest}
use Rattle.lowfare.specs.Verdicts.{TellsBreaches, TellsLawful}
use Rattle.lowfare.specs.declared.status.Status.{Status}
use Rattle.lowfare.specs.declared.status.Status.TheVariants.{Done, Refused, TooLarge, No}
use Rattle.residual_keys.specs.Searches.{ReachesMoreThan}
use Rattle.shop_book.specs.Asked.{asked, calendar_of, case_of, check_of, priced_case, verdict_of}
use Rattle.whole_case.specs.Texts.{refusal_text}
use Rattle.whole_case.specs.declared.check.CheckCase.{CheckCase}
use Rattle.whole_case.specs.declared.refusals.Refusal.{Refusal}
use Rattle.whole_case.specs.declared.verdict.VerdictCase.{VerdictCase}

-- The request is within the budget, and the text tells its best tickets.
pub record Answers (b : Book) (best : Option ℕ) (budget : ℕ) (bytes text : List ℕ) : Type 0 where
  pub request : Request
  pub asked : asked b best bytes (Ok request)
  pub few : ReachesMoreThan budget b request → ⊥
  pub tells : TellsBest (case_of b request) text

-- The request is beyond the budget.
pub record IsBeyond (b : Book) (best : Option ℕ) (budget : ℕ) (bytes text : List ℕ) : Type 0 where
  pub request : Request
  pub asked : asked b best bytes (Ok request)
  pub many : ReachesMoreThan budget b request
  pub whole : text ≡ codes "too large\n"

-- what a search of the book replies
abbrev pub Searched : Book → Option ℕ → ℕ → List ℕ → Status → List ℕ → Type 0
Searched b best budget bytes Done text = Answers b best budget bytes text
Searched b best budget bytes TooLarge text = IsBeyond b best budget bytes text
Searched b best budget bytes Refused text = IsRefused (asked b best bytes) text
Searched b best budget bytes status text = ⊥

-- The certificate meets the checks, so its answers are the best tickets.
pub record IsYes (b : Book) (request certificate text : List ℕ) : Type 0 where
  pub found : CheckCase
  pub read : check_of b request certificate (Ok found)
  pub meets : Checks found.certificate found.book found.request
  pub tells : TellsYes found text

-- The certificate fails a check, and the text names the first that it fails, and where.
pub record IsNo (b : Book) (request certificate text : List ℕ) : Type 0 where
  pub found : CheckCase
  pub read : check_of b request certificate (Ok found)
  pub rule : ℕ
  pub place : ℕ
  pub fails : FirstFailure found.certificate found.book found.request rule place
  pub whole : text ≡ no_text rule place

-- what a check against the book replies
abbrev pub Checked : Book → List ℕ → List ℕ → Status → List ℕ → Type 0
Checked b request certificate Done text = IsYes b request certificate text
Checked b request certificate No text = IsNo b request certificate text
Checked b request certificate Refused text = IsRefused (check_of b request certificate) text
Checked b request certificate status text = ⊥

-- the text is the line of this refusal
abbrev pub TellsReason : Option Refusal → List ℕ → Type 0
TellsReason None text = ⊥
TellsReason (Some refusal) text = text ≡ refusal_text refusal

-- The text tells the cells of the request's calendar.
pub record IsPriced (b : Book) (spans : Spans) (budget : ℕ) (bytes text : List ℕ) : Type 0 where
  pub request : Request
  pub asked : calendar_of b spans.outs spans.backs bytes (Ok request)
  pub tells : TellsCells spans budget (priced_case b request) text

-- what a calendar of the book replies
abbrev pub Priced : Book → Spans → ℕ → List ℕ → Status → List ℕ → Type 0
Priced b spans budget bytes Done text = IsPriced b spans budget bytes text
Priced b spans budget bytes Refused text = IsRefused (calendar_of b spans.outs spans.backs bytes) text
Priced b spans budget bytes status text = ⊥

-- The ticket is judged: lawful with its price, or all its breaches.
pub record IsJudged (b : Book) (request ticket text : List ℕ) : Type 0 where
  pub found : VerdictCase
  pub read : verdict_of b request ticket (Ok found)
  pub tells : TellsLawful found text ⊎ TellsBreaches found text

-- what a verdict by the book replies
abbrev pub Judged : Book → List ℕ → List ℕ → Status → List ℕ → Type 0
Judged b request ticket Done text = IsJudged b request ticket text
Judged b request ticket Refused text = IsRefused (verdict_of b request ticket) text
Judged b request ticket status text = ⊥
