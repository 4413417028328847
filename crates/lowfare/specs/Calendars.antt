-- What the command `calendar` makes of the bytes of its input.
use Rattle.std.specs.Prelude.{◌≡◌, ℕ, List, ◌++◌, length, codes, decimal, Option, Ok}
use Rattle.fare_calendar.specs.CalendarText.{CalendarText}
use Rattle.fare_calendar.specs.Calendars.{IsCalendar}
use Rattle.fare_calendar.specs.declared.cell.Cell.{Cell}
use Rattle.fare_calendar.specs.declared.spans.Spans.{Spans}
use Rattle.whole_case.specs.Cases.{calendar_case}
use Rattle.whole_case.specs.declared.calendar.CalendarCase.{CalendarCase}

-- A case whose request has a calendar of so many days out and so many back.
pub record HasCalendar (outs backs : ℕ) (at : Option ℕ) (bytes : List ℕ) : Type 0 where
  pub found : CalendarCase
  pub spelled : calendar_case outs backs at bytes (Ok found)

-- The text is the version, and the text of the calendar's cells, each by a search within the budget.
pub record TellsCells (spans : Spans) (budget : ℕ) (found : CalendarCase) (text : List ℕ) : Type 0 where
  pub cells : List Cell
  pub are : IsCalendar found.book found.request spans budget cells
  pub calendar : List ℕ
  pub tells : CalendarText spans cells calendar
  pub whole : text ≡ codes "version " ++ (decimal (length found.book.entries) ++ (codes "\n" ++ calendar))

-- The bytes spell a case with a calendar, and the text tells its cells.
pub record TellsCalendar (outs backs budget : ℕ) (at : Option ℕ) (bytes text : List ℕ) : Type 0 where
  pub case : HasCalendar outs backs at bytes
  pub tells : TellsCells (record { outs = outs; backs = backs }) budget case.found text
