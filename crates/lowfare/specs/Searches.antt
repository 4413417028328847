-- What the command `search` makes of the bytes of its input.
use Rattle.std.specs.Prelude.{◌≡◌, ℕ, List, ◌++◌, length, codes, decimal, Ok, Option}
use Rattle.answer_text.specs.Answer.{AnswerText}
use Rattle.certificate.specs.CertOf.{CertOf}
use Rattle.certificate.specs.Checks.{Checks}
use Rattle.certificate.specs.declared.parts.Certificate.{Certificate}
use Rattle.certificate_text.specs.CertText.{CertText}
use Rattle.fare_law.specs.Best.{Best}
use Rattle.fare_law.specs.declared.tickets.Ticket.{Ticket}
use Rattle.lowfare.specs.Cases.{ExceedsBudget, FitsBudget}
use Rattle.lowfare.specs.Checked.{MeetsChecks}
use Rattle.search_check.specs.Accepted.{AddsLines}
use Rattle.whole_case.specs.Cases.{search_case}
use Rattle.whole_case.specs.declared.search.SearchCase.{SearchCase}

-- Whatever bytes spell this case, with a section of this text before their last line they spell a case that a check says yes to.
abbrev pub IsAccepted : SearchCase → List ℕ → Type 0
IsAccepted found proof =
    (best at : Option ℕ) (front : List ℕ) → search_case best at (front ++ codes "\n#end\n") (Ok found) → MeetsChecks best at (front ++ (codes "\n#certificate\n" ++ (proof ++ codes "#end\n")))

-- So do whatever bytes have the sections of the case and, in that of the certificate, the lines of this one, however they are
-- spelled otherwise.
abbrev pub IsAcceptedByLines : SearchCase → Certificate → Type 0
IsAcceptedByLines found certificate =
    (best at : Option ℕ) (bytes added : List ℕ) → search_case best at bytes (Ok found) → AddsLines certificate bytes added → MeetsChecks best at added

-- The text is the version, the answer of the best tickets of the case, and the certificate of the search, which meets the
-- checks: with its text or its lines added to it, the case is one that a check says yes to.
pub record TellsBest (found : SearchCase) (text : List ℕ) : Type 0 where
  pub tickets : List Ticket
  pub best : Best found.book found.request tickets
  pub answer : List ℕ
  pub tells : AnswerText found.book found.request tickets answer
  pub certificate : Certificate
  pub made : CertOf found.book found.request certificate
  pub meets : Checks certificate found.book found.request
  pub proof : List ℕ
  pub written : CertText certificate proof
  pub accepted : IsAccepted found proof
  pub accepted_by_lines : IsAcceptedByLines found certificate
  pub whole : text ≡ codes "version " ++ (decimal (length found.book.entries) ++ (codes "\n" ++ (answer ++ proof)))

-- The bytes spell a case within the budget, and the text tells its best tickets.
pub record Searches (best : Option ℕ) (budget : ℕ) (at : Option ℕ) (bytes text : List ℕ) : Type 0 where
  pub case : FitsBudget best budget at bytes
  pub tells : TellsBest case.found text

-- The bytes spell a case beyond the budget.
pub record IsTooLarge (best : Option ℕ) (budget : ℕ) (at : Option ℕ) (bytes text : List ℕ) : Type 0 where
  pub case : ExceedsBudget best budget at bytes
  pub whole : text ≡ codes "too large\n"
