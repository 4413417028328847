-- What a search reaches has a text, and a run from the root has a code.
use Rattle.std.specs.Prelude.{◌≡◌, ℕ, ◌≤◌, List, [], length, slice_get, Some, None}
use Rattle.fare_law.specs.declared.limits.TheConstants.{MOST_DATED_FLIGHTS}
use Rattle.fare_book.specs.Keeping.{Limited}
use Rattle.fare_law.specs.declared.moves.Move.{Move}
use Rattle.fare_law.specs.declared.requests.Request.{Request}
use Rattle.fare_law.specs.Book.{Book}
use Rattle.fare_law.specs.Limits.{IsFlight}
use Rattle.fare_law.specs.Lists.{Each}
use Rattle.fare_law.specs.Codes.{run_code}
use Rattle.flight_paths.specs.declared.positions.Position.{Position}
use Rattle.flight_paths.specs.Positions.{before_slice}
use Rattle.residual_keys.specs.declared.residual.Chosen.{Chosen}
use Rattle.residual_keys.specs.declared.residual.Next.{Next}
use Rattle.residual_keys.specs.declared.residual.Next.TheVariants.{At, Done}
use Rattle.residual_keys.specs.ResidualText.{IsWritten}
use Rattle.residual_keys.specs.Residuals.{RunFromRoot, State, no_part}
use Rattle.residual_keys.specs.Searches.{Reached}
use Rattle.residual_keys.specs.Steps.{IsChosen}
use Rattle.ticket_order.specs.Coding.{IsCodeOf}

-- A book within its limits: those of its fares and rules, and of its flights, of which there are not too many.
pub record InLimits (b : Book) : Type 0 where
  pub fares : Limited b
  pub flights : Each IsFlight b.timetable.flights
  pub few : length b.timetable.flights ≤ MOST_DATED_FLIGHTS

-- what a move leaves has a text, or is the end of the journey
abbrev pub IsWrittenNext : Next → Type 0
IsWrittenNext Done = Unit {0}
IsWrittenNext (At x) = IsWritten x

-- The root has a text.
abbrev pub RootIsWritten : Book → Request → Type 0
RootIsWritten b q = (at : Position) → before_slice b 0 (slice_get q.slices 0) None ≡ Some at → IsWritten (record { at = at; units = []; part = no_part })

-- What a move leaves of a state that has a text has a text.
abbrev pub MovesKeepTexts : Book → Request → Type 0
MovesKeepTexts b q = (x : State) (c : Chosen) → IsWritten x → IsChosen b q x c → IsWrittenNext c.next

-- What a search reaches has a text.
abbrev pub ReachedIsWritten : Book → Request → Type 0
ReachedIsWritten b q = (x : State) → Reached b q x → IsWritten x

-- The code of a run from the root is the code of its moves alone.
abbrev pub RunsHaveCodes : Book → Request → Type 0
RunsHaveCodes b q = (ms : List Move) (price : ℕ) → RunFromRoot b q ms price → IsCodeOf (run_code ms) ms
