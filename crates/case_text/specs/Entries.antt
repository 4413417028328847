-- What each line of a case is where it stands, or the fault that it has there. Where a line stands is told by the last header
-- before it and the count of lines since; of several faults the one that is tested first decides.
use Rattle.std.specs.Prelude.{ℕ, ◌+◌, ◌==◌, ◌&&◌, Bool, true, false, not, nat_lt, List, [], ◌∷◌, length, Option, Some, None, Result, Ok, Err, if◌then◌else◌}
use Rattle.std.specs.Str.Lines.{lines}
use Rattle.fare_law.specs.declared.limits.TheConstants.{MOST_SEAT_ROWS}
use Rattle.fare_law.specs.declared.rows.TextLine.{TextLine}
use Rattle.case_text.specs.declared.contents.Case.{Case}
use Rattle.case_text.specs.declared.contents.Entry.{Entry}
use Rattle.case_text.specs.declared.contents.Entry.TheVariants.{Opens, Place, Flight, Seat, Text}
use Rattle.case_text.specs.declared.faults.CaseFault.{CaseFault}
use Rattle.case_text.specs.declared.faults.CaseFault.TheVariants.{NoEnd, UnknownSection, Order, BadRow, TooMany, AfterEnd}
use Rattle.case_text.specs.declared.headers.Header.{Header}
use Rattle.case_text.specs.declared.headers.Header.TheVariants.{Places, Flights, Seats, Filings, Later, Request, Script, Certificate, Ticket, End}
use Rattle.case_text.specs.declared.kinds.CaseKind.{CaseKind}
use Rattle.case_text.specs.declared.kinds.CaseKind.TheVariants.{Serve}
use Rattle.case_text.specs.declared.standing.Standing.{Standing}
use Rattle.case_text.specs.Contents.{case_with}
use Rattle.case_text.specs.Headers.{due, is_name, is_named}
use Rattle.case_text.specs.Lines.{text_lines}
use Rattle.case_text.specs.Rows.{place_row, flight_row, seat_row}
use Rattle.case_text.specs.declared.limits.TheConstants.{MOST_FILINGS, MOST_FLIGHT_ROWS, MOST_PLACES, MOST_REQUESTS, MOST_SCRIPT_LINES}

-- where the first line stands: under no header
abbrev pub at_start : Standing
at_start = record { under = None; count = 0 }

-- where the line after this entry stands
abbrev pub moved : Standing → Entry → Standing
moved standing (Opens header line) = record { under = Some header; count = 0 }
moved standing entry = record { under = standing.under; count = standing.count + 1 }

-- the case has ended
abbrev pub is_over : Option Header → Bool
is_over (Some End) = true
is_over under = false

-- a line that begins with # is a header, but in a certificate, where only #end is one
abbrev pub begins_header : List ℕ → Bool
begins_header [] = false
begins_header (c ∷ rest) = c == 35

abbrev pub is_header : Option Header → List ℕ → Bool
is_header (Some Certificate) line = is_named line End
is_header under line = begins_header line

-- a serve case has as many requests as its limit allows, each other case has one
abbrev pub has_one_request : CaseKind → Bool
has_one_request Serve = false
has_one_request kind = true

-- the lines that a section may have, if it has a limit
abbrev pub limit : CaseKind → Header → Option ℕ
limit kind Places = Some MOST_PLACES
limit kind Flights = Some MOST_FLIGHT_ROWS
limit kind Seats = Some MOST_SEAT_ROWS
limit kind Filings = Some MOST_FILINGS
limit kind Later = Some MOST_FILINGS
limit kind Request = if has_one_request kind then Some 1 else Some MOST_REQUESTS
limit kind Script = Some MOST_SCRIPT_LINES
limit kind Certificate = None
limit kind Ticket = None
limit kind End = None

abbrev pub has_room : Option ℕ → ℕ → Bool
has_room None count = true
has_room (Some most) count = nat_lt count most

abbrev pub is_request : Option Header → Bool
is_request (Some Request) = true
is_request under = false

-- the section still wants its one request
abbrev pub wants_request : CaseKind → Standing → Bool
wants_request kind standing = is_request standing.under && has_one_request kind && (standing.count == 0)

-- the header that the line is, if it is the one due
abbrev pub opened : TextLine → Option Header → Result Entry CaseFault
opened line None = Err (Order line.line)
opened line (Some header) = if is_named line.bytes header then Ok (Opens header line.line) else Err (Order line.line)

abbrev pub header_judged : CaseKind → Standing → TextLine → Result Entry CaseFault
header_judged kind standing line =
    if not (is_name line.bytes) then Err (UnknownSection line.line)
    else if wants_request kind standing then Err (Order line.line)
    else opened line (due kind standing.under)

-- the row that a line of a table is, or its fault
abbrev pub row_judged : {A : Type 0} → (A → Entry) → TextLine → Result A ℕ → Result Entry CaseFault
row_judged entry line (Ok row) = Ok (entry row)
row_judged entry line (Err column) = Err (BadRow line.line column)

-- what a line is in a section, whatever stands before it
abbrev pub entry_of : Header → TextLine → Result Entry CaseFault
entry_of Places line = row_judged Place line (place_row line)
entry_of Flights line = row_judged Flight line (flight_row line)
entry_of Seats line = row_judged Seat line (seat_row line)
entry_of header line = Ok (Text header line)

-- an entry for which the section has room
abbrev pub counted : Bool → TextLine → Result Entry CaseFault → Result Entry CaseFault
counted room line (Err fault) = Err fault
counted room line (Ok entry) = if room then Ok entry else Err (TooMany line.line)

abbrev pub line_judged : CaseKind → Option Header → ℕ → TextLine → Result Entry CaseFault
line_judged kind None count line = Err (Order line.line)
line_judged kind (Some header) count line = counted (has_room (limit kind header) count) line (entry_of header line)

-- what a line is where it stands, or its fault
abbrev pub judged : CaseKind → Standing → TextLine → Result Entry CaseFault
judged kind standing line =
    if is_over standing.under then Err (AfterEnd line.line)
    else if is_header standing.under line.bytes then header_judged kind standing line
    else line_judged kind standing.under standing.count line

infixl 10 ◌>>=◌
-- what follows, where there was no fault
abbrev pub ◌>>=◌ : {A B : Type 0} → Result A CaseFault → (A → Result B CaseFault) → Result B CaseFault
(Ok a) >>= f = f a
(Err fault) >>= f = Err fault

-- what these lines are in turn, or the first fault; next is the number of the line after the last
abbrev pub entries : CaseKind → ℕ → Standing → List TextLine → Result (List Entry) CaseFault
entries kind next standing [] = if is_over standing.under then Ok [] else Err (NoEnd next)
entries kind next standing (l ∷ ls) = do
  entry ← judged kind standing l
  more ← entries kind next (moved standing entry) ls
  Ok (entry ∷ more)

-- the case that these lines spell, or the first fault
abbrev pub case_read : CaseKind → ℕ → List TextLine → Result Case CaseFault
case_read kind next lines = do
  found ← entries kind next at_start lines
  Ok (case_with found)

-- the case that bytes spell, or the first fault: without #end at the line that would follow the last one, empty lines counted
abbrev pub case_of : CaseKind → List ℕ → Result Case CaseFault
case_of kind bytes = case_read kind (length (lines bytes) + 1) (text_lines bytes)
