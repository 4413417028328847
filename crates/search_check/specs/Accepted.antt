-- That the case of a search, with the certificate of the search added, is the case of a check that meets the checks.
use Rattle.std.specs.Prelude.{◌≡◌, ℕ, ◌<◌, ◌^◌, List, ◌++◌, Option, Ok, codes}
use Rattle.case_text.specs.declared.contents.Case.{Case}
use Rattle.case_text.specs.declared.kinds.CaseKind.TheVariants.{Check, Search}
use Rattle.case_text.specs.Entries.{case_of}
use Rattle.certificate.specs.declared.parts.Certificate.{Certificate}
use Rattle.certificate.specs.CertOf.{CertOf}
use Rattle.certificate.specs.Checks.{Checks}
use Rattle.certificate_text.specs.CertText.{CertLines, CertText, IsCertificate}
use Rattle.residual_keys.specs.Searches.{ReachesMoreThan}
use Rattle.search_check.specs.Sections.{SameSections}
use Rattle.whole_case.specs.declared.check.CheckCase.{CheckCase}
use Rattle.whole_case.specs.declared.search.SearchCase.{SearchCase}
use Rattle.whole_case.specs.Cases.{check_case, search_case}

-- The bytes of a check have the sections of these bytes of a search, and in that of the certificate the lines of this one.
pub record AddsLines (c : Certificate) (bytes added : List ℕ) : Type 0 where
  pub before : Case
  pub after : Case
  pub search : case_of Search bytes ≡ Ok before
  pub check : case_of Check added ≡ Ok after
  pub same : SameSections before after
  pub lines : CertLines c after.certificate

-- The bytes of a check are these bytes of a search, with the header of the certificate and its text before the last line.
pub record AddsText (c : Certificate) (bytes added : List ℕ) : Type 0 where
  pub front : List ℕ
  pub proof : List ℕ
  pub text : CertText c proof
  pub search : bytes ≡ front ++ codes "\n#end\n"
  pub check : added ≡ front ++ (codes "\n#certificate\n" ++ (proof ++ codes "#end\n"))

-- the case of a check of a search's case
abbrev pub with_certificate : SearchCase → Certificate → CheckCase
with_certificate found c = record { book = found.book; request = found.request; certificate = c }

-- Where bytes spell the case of a search, bytes that add a certificate so spell the case of a check: of the same book and the same request.
abbrev pub IsSpelled : (Certificate → List ℕ → List ℕ → Type 0) → Type 0
IsSpelled Adds =
    (best at : Option ℕ) (bytes added : List ℕ) (found : SearchCase) (c : Certificate) → search_case best at bytes (Ok found) → IsCertificate c → Adds c bytes added
    → check_case best at added (Ok (with_certificate found c))

-- The certificate of a search of this case within a budget is accepted: bytes that add it so are the case of a check that meets the checks.
abbrev pub IsAccepted : (Certificate → List ℕ → List ℕ → Type 0) → SearchCase → Type 0
IsAccepted Adds found =
    (best at : Option ℕ) (budget : ℕ) (bytes added : List ℕ) (c : Certificate)
    → search_case best at bytes (Ok found) → budget < 2 ^ 32 → (ReachesMoreThan budget found.book found.request → ⊥) → CertOf found.book found.request c → Adds c bytes added
    → check_case best at added (Ok (with_certificate found c)) × Checks c found.book found.request
