-- The headers of a case: their lines, and their order in each kind of case.
use Rattle.std.specs.Prelude.{ℕ, Bool, ◌||◌, List, [], ◌∷◌, Option, Some, None, codes, bytes_eq, if◌then◌else◌}
use Rattle.case_text.specs.declared.headers.Header.{Header}
use Rattle.case_text.specs.declared.headers.Header.TheVariants.{Places, Flights, Seats, Filings, Later, Request, Script, Certificate, Ticket, End}
use Rattle.case_text.specs.declared.kinds.CaseKind.{CaseKind}
use Rattle.case_text.specs.declared.kinds.CaseKind.TheVariants.{Search, Check, Serve, Verdict}

-- the line that a header is
abbrev pub name_of : Header → List ℕ
name_of Places = codes "#places"
name_of Flights = codes "#flights"
name_of Seats = codes "#seats"
name_of Filings = codes "#filings"
name_of Later = codes "#later"
name_of Request = codes "#request"
name_of Script = codes "#script"
name_of Certificate = codes "#certificate"
name_of Ticket = codes "#ticket"
name_of End = codes "#end"

-- the line is this header
abbrev pub is_named : List ℕ → Header → Bool
is_named line header = bytes_eq line (name_of header)

-- the line is a header of some kind of case
abbrev pub is_name : List ℕ → Bool
is_name line =
    is_named line Places || is_named line Flights || is_named line Seats || is_named line Filings || is_named line Later || is_named line Request
    || is_named line Script || is_named line Certificate || is_named line Ticket || is_named line End

-- the headers of a case in their order
abbrev pub headers_of : CaseKind → List Header
headers_of Search = Places ∷ Flights ∷ Seats ∷ Filings ∷ Request ∷ End ∷ []
headers_of Check = Places ∷ Flights ∷ Seats ∷ Filings ∷ Request ∷ Certificate ∷ End ∷ []
headers_of Serve = Places ∷ Flights ∷ Seats ∷ Filings ∷ Later ∷ Request ∷ Script ∷ End ∷ []
headers_of Verdict = Places ∷ Flights ∷ Seats ∷ Filings ∷ Request ∷ Ticket ∷ End ∷ []

abbrev pub first_of : List Header → Option Header
first_of [] = None
first_of (h ∷ hs) = Some h

-- the header that stands after this one
abbrev pub next_of : Header → List Header → Option Header
next_of header [] = None
next_of header (h ∷ hs) = if is_named (name_of header) h then first_of hs else next_of header hs

-- the header that is due: the first one, or the one after the last that was met
abbrev pub due : CaseKind → Option Header → Option Header
due kind None = first_of (headers_of kind)
due kind (Some header) = next_of header (headers_of kind)
