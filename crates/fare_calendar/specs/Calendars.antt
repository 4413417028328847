-- The calendar of a request of two slices, and why there is none.
use Rattle.std.specs.Prelude.{◌≡◌, ◌≢◌, ℕ, zero, suc, pos, ◌+ℤ◌, Bool, true, false, int_le, ◌&&◌, List, [], ◌∷◌, ◌++◌, length, map, flat_map, Option, None, Some}
use Rattle.fare_calendar.specs.Cells.{cell}
use Rattle.fare_calendar.specs.declared.cell.Cell.{Cell}
use Rattle.fare_calendar.specs.declared.cell.CellValue.{CellValue}
use Rattle.fare_calendar.specs.declared.cell.CellValue.TheVariants.{Price, NoTicket, TooLarge}
use Rattle.fare_calendar.specs.declared.fault.CalendarFault.{CalendarFault}
use Rattle.fare_calendar.specs.declared.fault.CalendarFault.TheVariants.{BadRequest, NotTwo, Span, Mem}
use Rattle.fare_calendar.specs.declared.spans.Spans.{Spans}
use Rattle.fare_law.specs.declared.requests.Request.{Request}
use Rattle.fare_law.specs.declared.requests.Slice.{Slice}
use Rattle.fare_law.specs.declared.tickets.Ticket.{Ticket}
use Rattle.fare_law.specs.Best.{Best, Costs}
use Rattle.fare_law.specs.Book.{Book}
use Rattle.fare_law.specs.Lists.{Matched}
use Rattle.fare_law.specs.Requests.{judged, known_places, within}
use Rattle.residual_keys.specs.Searches.{ReachesMoreThan}

-- the numbers below n, in order
unfoldable pub numbers_below : ℕ → List ℕ
numbers_below zero = []
numbers_below (suc n) = numbers_below n ++ n ∷ []

-- so many days back, each with this day out
abbrev pub with_backs : ℕ → ℕ → List (ℕ × ℕ)
with_backs backs out = map (λ back. (out, back)) (numbers_below backs)

-- the pairs of days, by the day out and then by the day back
abbrev pub day_pairs : ℕ → ℕ → List (ℕ × ℕ)
day_pairs outs backs = flat_map (with_backs backs) (numbers_below outs)

-- The one best ticket, and what it costs.
pub record HasPrice (b : Book) (q : Request) (price : ℕ) : Type 0 where
  pub ticket : Ticket
  pub best : Best b q (ticket ∷ [])
  pub costs : Costs ticket b q price

-- what a cell tells of its request, of which one ticket at most is asked
abbrev pub HasValue : Book → Request → ℕ → CellValue → Type 0
HasValue b q budget (Price price) = (ReachesMoreThan budget b q → ⊥) × HasPrice b q price
HasValue b q budget NoTicket = (ReachesMoreThan budget b q → ⊥) × Best b q []
HasValue b q budget TooLarge = ReachesMoreThan budget b q

-- what the least price tells
abbrev pub value_of : Option ℕ → CellValue
value_of None = NoTicket
value_of (Some price) = Price price

-- The cell is that of these days after the first ones.
pub record IsCell (b : Book) (q : Request) (budget : ℕ) (days : ℕ × ℕ) (c : Cell) : Type 0 where
  pub dates : map (λ s. s.first) (cell q days.0 days.1).slices ≡ c.out ∷ c.back ∷ []
  pub value : HasValue b (cell q days.0 days.1) budget c.value

-- 1 to 31 days from the first day of the slice on, up to 2099-12-31
abbrev pub span_fits : ℕ → Slice → Bool
span_fits days s = within 1 31 days && int_le (s.first +ℤ pos days) (pos 47482)

-- both do
abbrev pub spans_fit : Spans → List Slice → Bool
spans_fit spans [] = false
spans_fit spans (out ∷ []) = false
spans_fit spans (out ∷ back ∷ []) = span_fits spans.outs out && span_fits spans.backs back
spans_fit spans (out ∷ back ∷ other ∷ more) = false

-- The request has a calendar of these spans.
pub record IsSpanned (b : Book) (q : Request) (spans : Spans) : Type 0 where
  pub right : judged (known_places b) q ≡ None
  pub two : length q.slices ≡ 2
  pub fit : spans_fit spans q.slices ≡ true

-- The cells are those of the calendar, in order.
pub record IsCalendar (b : Book) (q : Request) (spans : Spans) (budget : ℕ) (cells : List Cell) : Type 0 where
  pub spanned : IsSpanned b q spans
  pub matched : Matched (IsCell b q budget) (day_pairs spans.outs spans.backs) cells

-- why there is no calendar: of several causes the first
abbrev pub HasCause : Book → Request → Spans → CalendarFault → Type 0
HasCause b q spans (BadRequest why) = judged (known_places b) q ≡ Some why
HasCause b q spans NotTwo = (judged (known_places b) q ≡ None) × (length q.slices ≢ 2)
HasCause b q spans Span = (judged (known_places b) q ≡ None) × (length q.slices ≡ 2) × (spans_fit spans q.slices ≡ false)
HasCause b q spans Mem = Unit {0}
