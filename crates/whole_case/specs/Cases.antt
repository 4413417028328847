-- The cases that bytes spell, or the first refusal, stage by stage: the form of the lines, the places and flights, the seats, the
-- filings, the request, then what the kind of case has more, and last the version.
use Rattle.std.specs.Prelude.{ℕ, List, length, Option}
use Rattle.case_text.specs.declared.kinds.CaseKind.{CaseKind}
use Rattle.case_text.specs.declared.kinds.CaseKind.TheVariants.{Search, Check, Verdict}
use Rattle.fare_law.specs.declared.requests.Request.{Request}
use Rattle.whole_case.specs.declared.asked.AskedCase.{AskedCase}
use Rattle.whole_case.specs.declared.books.FiledCase.{FiledCase}
use Rattle.whole_case.specs.declared.calendar.CalendarCase.{CalendarCase}
use Rattle.whole_case.specs.declared.check.CheckCase.{CheckCase}
use Rattle.whole_case.specs.declared.search.SearchCase.{SearchCase}
use Rattle.whole_case.specs.declared.verdict.VerdictCase.{VerdictCase}
use Rattle.whole_case.specs.Calendars.{has_spans, has_two}
use Rattle.whole_case.specs.Certificates.{certificate_in}
use Rattle.whole_case.specs.Filings.{filed_version, has_version}
use Rattle.whole_case.specs.Requests.{sole_line, sole_request, with_best}
use Rattle.whole_case.specs.Stages.{Stage, done, ◌>>=◌}
use Rattle.whole_case.specs.Tickets.{ticket_in}
use Rattle.whole_case.specs.Timetables.{opening_of, sections_in}

-- what a case with this request asks
abbrev pub asked_of : FiledCase → Request → AskedCase
asked_of filed request = record { book = filed.book; request = request; line = sole_line filed.requests; filings = filed.filings; ticket = filed.ticket; certificate = filed.certificate; end = filed.end }

-- what each kind of case with one request has: the version of the book that is asked for, the request with its line, and the lines of the sections
-- after it
abbrev pub asked_case : CaseKind → Option ℕ → List ℕ → Stage AskedCase
asked_case kind at bytes = do
  case ← sections_in kind bytes
  opening ← opening_of case.places case.flights case.seats
  book ← filed_version opening case.filings at
  request ← sole_request book case.requests
  done (record { book = book; request = request; line = sole_line case.requests; filings = case.filings; ticket = case.ticket; certificate = case.certificate; end = case.end })

-- what a stage gives, where there is a version of the number that is asked for
abbrev pub in_version : {A : Type 0} → Option ℕ → AskedCase → Stage A → Stage A
in_version at asked stage = do
  a ← stage
  _ ← has_version at (length asked.filings)
  done a

-- the request has two slices with so many days, and there is a version of the number that is asked for
abbrev pub has_days : ℕ → ℕ → Option ℕ → AskedCase → Stage (Unit {0})
has_days outs backs at asked = do
  _ ← has_two asked.line asked.request
  _ ← has_spans outs backs asked.line asked.request
  has_version at (length asked.filings)

-- the case of a search, with the number of tickets and the version that are asked for
abbrev pub search_case : Option ℕ → Option ℕ → List ℕ → Stage SearchCase
search_case best at bytes = do
  asked ← asked_case Search at bytes
  _ ← has_version at (length asked.filings)
  done (record { book = asked.book; request = with_best best asked.request })

-- the case of a check: that of a search, and the certificate
abbrev pub check_case : Option ℕ → Option ℕ → List ℕ → Stage CheckCase
check_case best at bytes = do
  asked ← asked_case Check at bytes
  certificate ← certificate_in asked.certificate asked.end
  _ ← has_version at (length asked.filings)
  done (record { book = asked.book; request = with_best best asked.request; certificate = certificate })

-- the case of a calendar of so many days out and so many back: that of a search, whose request has two slices with so many days each
abbrev pub calendar_case : ℕ → ℕ → Option ℕ → List ℕ → Stage CalendarCase
calendar_case outs backs at bytes = do
  asked ← asked_case Search at bytes
  _ ← has_two asked.line asked.request
  _ ← has_spans outs backs asked.line asked.request
  _ ← has_version at (length asked.filings)
  done (record { book = asked.book; request = asked.request })

-- the case of a verdict: that of a search, and the ticket
abbrev pub verdict_case : Option ℕ → List ℕ → Stage VerdictCase
verdict_case at bytes = do
  asked ← asked_case Verdict at bytes
  ticket ← ticket_in asked.book asked.ticket
  _ ← has_version at (length asked.filings)
  done (record { book = asked.book; request = asked.request; ticket = ticket })
