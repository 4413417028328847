-- What texts ask of a book. Each stands for its section of a case, with lines counted from 1.
use Rattle.std.specs.Prelude.{◌≡◌, ⊤, ℕ, List, Option, Some, None, Result, Ok, Err}
use Rattle.case_text.specs.Lines.{text_lines}
use Rattle.certificate.specs.declared.parts.Certificate.{Certificate}
use Rattle.certificate_text.specs.CertText.{CertText, IsCertificate}
use Rattle.certificate_text.specs.Faults.{FaultFrom, Head}
use Rattle.certificate_text.specs.Unread.{Text}
use Rattle.certificate_text.specs.declared.faults.CertFault.{CertFault}
use Rattle.fare_calendar.specs.declared.fault.CalendarFault.{CalendarFault}
use Rattle.fare_calendar.specs.declared.fault.CalendarFault.TheVariants.{BadRequest as BadCalendar, NotTwo as NotTwoSlices, Span as BadSpan, Mem as NoMemory}
use Rattle.fare_law.specs.Book.{Book}
use Rattle.fare_law.specs.declared.requests.Request.{Request}
use Rattle.fare_law.specs.declared.rows.TextLine.{TextLine}
use Rattle.fare_law.specs.declared.tickets.Ticket.{Ticket}
use Rattle.whole_case.specs.Calendars.{has_spans, has_two}
use Rattle.whole_case.specs.Cases.{search_case}
use Rattle.whole_case.specs.Filings.{next}
use Rattle.whole_case.specs.Refusals.{of_certificate, refused_at}
use Rattle.whole_case.specs.Requests.{allowed_in, spelled_in, with_best}
use Rattle.whole_case.specs.Stages.{Stage, done, ◌>>=◌}
use Rattle.whole_case.specs.Tickets.{ticket_in}
use Rattle.whole_case.specs.declared.calendar.CalendarCase.{CalendarCase}
use Rattle.whole_case.specs.declared.check.CheckCase.{CheckCase}
use Rattle.whole_case.specs.declared.refusals.LoadFault.{LoadFault}
use Rattle.whole_case.specs.declared.refusals.LoadFault.TheVariants.{Refused, Mem}
use Rattle.whole_case.specs.declared.refusals.Reason.TheVariants.{BadRequest, NotTwo, Span}
use Rattle.whole_case.specs.declared.refusals.Refusal.{Refusal}
use Rattle.whole_case.specs.declared.search.SearchCase.{SearchCase}
use Rattle.whole_case.specs.declared.verdict.VerdictCase.{VerdictCase}

-- a text as the one line of its section
abbrev pub sole : List ℕ → TextLine
sole bytes = record { line = 1; bytes = bytes }

-- the book that bytes open: the last version of the case of a search
abbrev pub opened : List ℕ → Stage Book
opened bytes = do
  found ← search_case None None bytes
  done found.book

-- the book that takes the filing of this text
abbrev pub filed : Book → List ℕ → Stage Book
filed b bytes = next b (sole bytes)

-- the request of this text, with another number of tickets where one is given, which breaks no limit in the book
abbrev pub asked : Book → Option ℕ → List ℕ → Stage Request
asked b best bytes = do
  request ← spelled_in (sole bytes)
  _ ← allowed_in b 1 (with_best best request)
  done (with_best best request)

-- the certificate of this text, or the first line at fault
abbrev pub certificate_of : List ℕ → Stage Certificate
certificate_of bytes (Ok c) = IsCertificate c × CertText c bytes
certificate_of bytes (Err refusal) = (fault : CertFault) × FaultFrom Head (Text bytes 1) fault × (of_certificate fault ≡ Some refusal)

-- the request that a certificate is checked against, and the certificate
abbrev pub check_of : Book → List ℕ → List ℕ → Stage CheckCase
check_of b request certificate = do
  q ← asked b None request
  c ← certificate_of certificate
  done (record { book = b; request = q; certificate = c })

-- What was returned is the request and the certificate of a check, or why there are none, unless memory ran out.
abbrev pub ReadsBoth : Result (Request × Certificate) LoadFault → Book → List ℕ → List ℕ → Type 0
ReadsBoth (Ok both) b request certificate = asked b None request (Ok both.0) × certificate_of certificate (Ok both.1)
ReadsBoth (Err (Refused refusal)) b request certificate = check_of b request certificate (Err refusal)
ReadsBoth (Err Mem) b request certificate = ⊤

-- the request of a calendar of so many days out and so many back
abbrev pub calendar_of : Book → ℕ → ℕ → List ℕ → Stage Request
calendar_of b outs backs bytes = do
  q ← asked b None bytes
  _ ← has_two 1 q
  _ ← has_spans outs backs 1 q
  done q

-- the ticket of this text
abbrev pub ticket_of : Book → List ℕ → Stage Ticket
ticket_of b bytes = ticket_in b (text_lines bytes)

-- the request that a ticket is judged by, and the ticket
abbrev pub verdict_of : Book → List ℕ → List ℕ → Stage VerdictCase
verdict_of b request ticket = do
  q ← asked b None request
  t ← ticket_of b ticket
  done (record { book = b; request = q; ticket = t })

-- What was returned is the request and the ticket of a verdict, or why there are none, unless memory ran out.
abbrev pub ReadsTicket : Result (Request × Ticket) LoadFault → Book → List ℕ → List ℕ → Type 0
ReadsTicket (Ok both) b request ticket = asked b None request (Ok both.0) × ticket_of b ticket (Ok both.1)
ReadsTicket (Err (Refused refusal)) b request ticket = verdict_of b request ticket (Err refusal)
ReadsTicket (Err Mem) b request ticket = ⊤

-- a calendar's fault as the refusal of its request
abbrev pub calendar_reason : CalendarFault → Option Refusal
calendar_reason (BadCalendar why) = Some (refused_at 1 (BadRequest why))
calendar_reason NotTwoSlices = Some (refused_at 1 NotTwo)
calendar_reason BadSpan = Some (refused_at 1 Span)
calendar_reason NoMemory = None

-- a book, a request and a ticket, as the case of a verdict has them
abbrev pub judged_case : Book → Request → Ticket → VerdictCase
judged_case b q t = record { book = b; request = q; ticket = t }

-- a book and a request, as the case of a calendar has them
abbrev pub priced_case : Book → Request → CalendarCase
priced_case b q = record { book = b; request = q }

-- a book and a request, as the case of a search has them
abbrev pub case_of : Book → Request → SearchCase
case_of b q = record { book = b; request = q }
