-- The text of a calendar: a line with its spans, and a line for each cell.
use Rattle.std.specs.Prelude.{◌≡◌, ℕ, List, [], ◌∷◌, ◌++◌, Some, codes, decimal}
use Rattle.std.specs.List.{concat}
use Rattle.answer_text.specs.Lines.{line}
use Rattle.fare_calendar.specs.declared.cell.Cell.{Cell}
use Rattle.fare_calendar.specs.declared.cell.CellValue.{CellValue}
use Rattle.fare_calendar.specs.declared.cell.CellValue.TheVariants.{Price, NoTicket, TooLarge}
use Rattle.fare_calendar.specs.declared.spans.Spans.{Spans}
use Rattle.fare_law.specs.Lists.{Matched}
use Rattle.market_time.specs.Dates.{IsInCentury, day_spelled}

abbrev pub value_words : CellValue → List ℕ
value_words (Price price) = decimal price
value_words NoTicket = codes "none"
value_words TooLarge = codes "too large"

-- how many days out there are, and how many back
abbrev pub spans_line : Spans → List ℕ
spans_line spans = line (codes "calendar") (decimal spans.outs ∷ decimal spans.backs ∷ [])

-- The text is a cell's line: the date out, the date back, and what is told of them.
pub record CellLine (c : Cell) (text : List ℕ) : Type 0 where
  pub out : List ℕ
  pub back : List ℕ
  pub spells_out : day_spelled out ≡ Some c.out
  pub spells_back : day_spelled back ≡ Some c.back
  pub written : text ≡ line (codes "cell") (out ∷ back ∷ value_words c.value ∷ [])

-- The text is that of the calendar: the line of its spans, then its cells' lines.
pub record CalendarText (spans : Spans) (cells : List Cell) (text : List ℕ) : Type 0 where
  pub lines : List (List ℕ)
  pub each : Matched CellLine cells lines
  pub written : text ≡ spans_line spans ++ concat lines

-- both days have a date of the years 2000 to 2099
abbrev pub HasDates : Cell → Type 0
HasDates c = IsInCentury c.out × IsInCentury c.back
