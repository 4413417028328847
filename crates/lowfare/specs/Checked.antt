-- What the command `check` makes of the bytes of its input.
use Rattle.std.specs.Prelude.{◌≡◌, ℕ, List, ◌++◌, Option, Ok, codes, decimal}
use Rattle.certificate.specs.AnswerCheck.{AnswerIs}
use Rattle.certificate.specs.Checks.{Checks, FirstFailure}
use Rattle.fare_law.specs.Best.{Best}
use Rattle.fare_law.specs.Lists.{Matched}
use Rattle.fare_law.specs.declared.tickets.Ticket.{Ticket}
use Rattle.whole_case.specs.Cases.{check_case}
use Rattle.whole_case.specs.declared.check.CheckCase.{CheckCase}

-- A case whose certificate meets the checks.
pub record MeetsChecks (best at : Option ℕ) (bytes : List ℕ) : Type 0 where
  pub found : CheckCase
  pub spelled : check_case best at bytes (Ok found)
  pub meets : Checks found.certificate found.book found.request

-- A case whose certificate fails a check: the first that it fails, and the place where it fails.
pub record FailsCheck (best at : Option ℕ) (bytes : List ℕ) : Type 0 where
  pub found : CheckCase
  pub spelled : check_case best at bytes (Ok found)
  pub rule : ℕ
  pub place : ℕ
  pub fails : FirstFailure found.certificate found.book found.request rule place

-- The certificate's answers are the best tickets of the case, in order, at their prices.
pub record TellsYes (found : CheckCase) (text : List ℕ) : Type 0 where
  pub tickets : List Ticket
  pub best : Best found.book found.request tickets
  pub answers : Matched (AnswerIs found.book found.request) found.certificate.answers tickets
  pub whole : text ≡ codes "yes\n"

-- The bytes spell a case whose certificate meets the checks, so its answers are the best tickets.
pub record Accepts (best at : Option ℕ) (bytes text : List ℕ) : Type 0 where
  pub case : MeetsChecks best at bytes
  pub tells : TellsYes case.found text

-- the check by its number, and the place
abbrev pub no_text : ℕ → ℕ → List ℕ
no_text rule place = codes "no C" ++ (decimal rule ++ (codes " " ++ (decimal place ++ codes "\n")))

-- The bytes spell a case whose certificate fails a check, and the text names the first that it fails, and where.
pub record Fails (best at : Option ℕ) (bytes text : List ℕ) : Type 0 where
  pub case : FailsCheck best at bytes
  pub whole : text ≡ no_text case.rule case.place
