-- The book of a case, and what is read after it.
use Rattle.std.specs.Prelude.{ℕ, List, Option}
use Rattle.case_text.specs.declared.contents.Case.{Case}
use Rattle.case_text.specs.declared.kinds.CaseKind.{CaseKind}
use Rattle.fare_law.specs.Book.{Book}
use Rattle.fare_law.specs.declared.rows.FlightRow.{FlightRow}
use Rattle.fare_law.specs.declared.rows.PlaceRow.{PlaceRow}
use Rattle.fare_law.specs.declared.rows.SeatRow.{SeatRow}
use Rattle.fare_law.specs.declared.rows.TextLine.{TextLine}
use Rattle.whole_case.specs.declared.books.FiledCase.{FiledCase}
use Rattle.whole_case.specs.Filings.{filed_version}
use Rattle.whole_case.specs.Stages.{Stage, done, ◌>>=◌}
use Rattle.whole_case.specs.Timetables.{opening_of, sections_in}

-- the version that is asked for of the book of these rows
abbrev pub book_in : List PlaceRow → List FlightRow → List SeatRow → List TextLine → Option ℕ → Stage Book
book_in places flights seats filings at = do
  opening ← opening_of places flights seats
  filed_version opening filings at

-- a case with its book in place of its rows
abbrev pub filed_of : Case → Book → FiledCase
filed_of case book = record { book = book; filings = case.filings; later = case.later; requests = case.requests; script = case.script; certificate = case.certificate; ticket = case.ticket; end = case.end }

-- the case of this kind that bytes spell, up to its filings
abbrev pub filed_case : CaseKind → Option ℕ → List ℕ → Stage FiledCase
filed_case kind at bytes = do
  case ← sections_in kind bytes
  book ← book_in case.places case.flights case.seats case.filings at
  done (filed_of case book)
