-- What it means that a case keeps to the limits.
use Rattle.fare_law.specs.declared.requests.Request.{Request}
use Rattle.fare_law.specs.Book.{Book}
use Rattle.fare_law.specs.FilingLimits.{IsFiling}
use Rattle.fare_law.specs.Limits.{IsFlight, IsPlaceRow, IsRequest, IsSeatRow}
use Rattle.fare_law.specs.Lists.{Each}

-- the rows, flights and filings of the book, and the request
pub record KeepsLimits (b : Book) (q : Request) : Type 0 where
  pub places : Each IsPlaceRow b.timetable.places
  pub flights : Each IsFlight b.timetable.flights
  pub seats : Each IsSeatRow b.timetable.seats
  pub filings : Each IsFiling b.entries
  pub request : IsRequest q
