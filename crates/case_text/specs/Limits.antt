-- What a case that is read keeps to: rows within their limits, and sections within theirs.
use Rattle.std.specs.Prelude.{◌≡◌, ◌≤◌, ℕ, length, ⊤}
use Rattle.fare_law.specs.declared.limits.TheConstants.{MOST_SEAT_ROWS}
use Rattle.fare_law.specs.Limits.{IsFlightRow, IsPlaceRow, IsSeatRow}
use Rattle.fare_law.specs.Lists.{Each}
use Rattle.case_text.specs.declared.contents.Case.{Case}
use Rattle.case_text.specs.declared.contents.Entry.{Entry}
use Rattle.case_text.specs.declared.contents.Entry.TheVariants.{Place, Flight, Seat}
use Rattle.case_text.specs.declared.kinds.CaseKind.{CaseKind}
use Rattle.case_text.specs.declared.kinds.CaseKind.TheVariants.{Serve}
use Rattle.case_text.specs.declared.limits.TheConstants.{MOST_FILINGS, MOST_FLIGHT_ROWS, MOST_PLACES, MOST_REQUESTS, MOST_SCRIPT_LINES}

-- the entry is no row, or one within its limits
abbrev pub KeepsLimits : Entry → Type 0
KeepsLimits (Place row) = IsPlaceRow row
KeepsLimits (Flight row) = IsFlightRow row
KeepsLimits (Seat row) = IsSeatRow row
KeepsLimits entry = ⊤

-- a case of this kind may have so many requests
abbrev pub MayAsk : CaseKind → ℕ → Type 0
MayAsk Serve count = count ≤ MOST_REQUESTS
MayAsk kind count = count ≡ 1

-- each row of the tables is within its limits
pub record HasRows (case : Case) : Type 0 where
  pub places : Each IsPlaceRow case.places
  pub flights : Each IsFlightRow case.flights
  pub seats : Each IsSeatRow case.seats

-- each section has as many lines as it may have
pub record HasCounts (kind : CaseKind) (case : Case) : Type 0 where
  pub places : length case.places ≤ MOST_PLACES
  pub flights : length case.flights ≤ MOST_FLIGHT_ROWS
  pub seats : length case.seats ≤ MOST_SEAT_ROWS
  pub filings : length case.filings ≤ MOST_FILINGS
  pub later : length case.later ≤ MOST_FILINGS
  pub requests : MayAsk kind (length case.requests)
  pub script : length case.script ≤ MOST_SCRIPT_LINES

-- a case of this kind within its limits
pub record IsCase (kind : CaseKind) (case : Case) : Type 0 where
  pub rows : HasRows case
  pub counts : HasCounts kind case
