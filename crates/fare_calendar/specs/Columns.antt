-- The columns of a calendar: of one day back the cells of some days out.
use Rattle.std.specs.Prelude.{◌≡◌, ℕ, ◌+◌, ◌≤◌, true, List, length, slice_get, Some}
use Rattle.fare_calendar.specs.Cells.{cell, in_days, two_slices}
use Rattle.fare_calendar.specs.Calendars.{HasValue, spans_fit}
use Rattle.fare_calendar.specs.declared.cell.CellValue.{CellValue}
use Rattle.fare_calendar.specs.declared.columns.OutDays.{OutDays}
use Rattle.fare_calendar.specs.declared.spans.Spans.{Spans}
use Rattle.fare_law.specs.Book.{Book}
use Rattle.fare_law.specs.Limits.{IsRequest}
use Rattle.fare_law.specs.declared.requests.Request.{Request}

-- The request has cells for these spans.
pub record HasCells (q : Request) (spans : Spans) : Type 0 where
  pub right : IsRequest q
  pub two : length q.slices ≡ 2
  pub fit : spans_fit spans q.slices ≡ true

-- Days out of the calendar, as many as a window may have.
pub record AreDaysOut (spans : Spans) (outs : OutDays) : Type 0 where
  pub some : 1 ≤ outs.count
  pub few : outs.count ≤ 7
  pub within : outs.first + outs.count ≤ spans.outs

-- the request of a column: with a window of all its days out
abbrev pub column : Request → OutDays → ℕ → Request
column q outs back = record q { best = 1; slices = two_slices (λ s. in_days s outs.first outs.count) (λ s. in_days s back 1) q.slices }

-- So many things, each as its number says.
pub record AreNumbered {X : Type 0} (Is : ℕ → X → Type 0) (n : ℕ) (xs : List X) : Type 0 where
  pub many : length xs ≡ n
  pub each : (i : ℕ) (x : X) → slice_get xs i ≡ Some x → Is i x

-- what the cells of a day back tell
abbrev pub IsColumn : Book → Request → ℕ → OutDays → ℕ → List CellValue → Type 0
IsColumn b q budget outs back values = AreNumbered (λ later value. HasValue b (cell q (outs.first + later) back) budget value) outs.count values

-- those of each day back
abbrev pub AreColumns : Book → Request → ℕ → OutDays → ℕ → List (List CellValue) → Type 0
AreColumns b q budget outs backs columns = AreNumbered (IsColumn b q budget outs) backs columns
