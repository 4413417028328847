-- What the command `verdict` makes of the bytes of its input.
use Rattle.std.specs.Prelude.{◌≡◌, ◌⊎◌, ℕ, List, ◌++◌, length, codes, decimal, Option, Ok}
use Rattle.fare_law.specs.Best.{Costs}
use Rattle.fare_law.specs.Lawful.{Lawful}
use Rattle.fare_verdict.specs.Findings.{AreFindings}
use Rattle.fare_verdict.specs.FindingsText.{findings_text}
use Rattle.fare_verdict.specs.declared.finding.Finding.{Finding}
use Rattle.whole_case.specs.Cases.{verdict_case}
use Rattle.whole_case.specs.declared.verdict.VerdictCase.{VerdictCase}

-- A case with a ticket.
pub record HasTicket (at : Option ℕ) (bytes : List ℕ) : Type 0 where
  pub found : VerdictCase
  pub spelled : verdict_case at bytes (Ok found)

-- The ticket is lawful, and the text is its price.
pub record TellsLawful (found : VerdictCase) (text : List ℕ) : Type 0 where
  pub lawful : Lawful found.ticket found.book found.request
  pub price : ℕ
  pub costs : Costs found.ticket found.book found.request price
  pub whole : text ≡ codes "lawful price " ++ (decimal price ++ codes "\n")

-- how many findings there are, and a line for each
abbrev pub breaches_text : List Finding → List ℕ
breaches_text findings = codes "breaches " ++ (decimal (length findings) ++ (codes "\n" ++ findings_text findings))

-- The ticket isn't lawful, and the text has its findings.
pub record TellsBreaches (found : VerdictCase) (text : List ℕ) : Type 0 where
  pub unlawful : Lawful found.ticket found.book found.request → ⊥
  pub findings : List Finding
  pub are : AreFindings found.ticket found.book found.request findings
  pub whole : text ≡ breaches_text findings

-- The bytes spell a case with a ticket, and the text judges it.
pub record TellsVerdict (at : Option ℕ) (bytes text : List ℕ) : Type 0 where
  pub case : HasTicket at bytes
  pub tells : TellsLawful case.found text ⊎ TellsBreaches case.found text
