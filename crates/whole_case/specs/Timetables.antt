-- What the rows of a case give: the form of the case, its dated flights, and its seat rows.
use Rattle.std.specs.Prelude.{◌≡◌, ℕ, List, [], map, Some, Ok, Err}
use Rattle.fare_law.specs.declared.flights.Flight.{Flight}
use Rattle.fare_law.specs.declared.rows.FlightRow.{FlightRow}
use Rattle.fare_law.specs.declared.rows.PlaceRow.{PlaceRow}
use Rattle.fare_law.specs.declared.rows.SeatRow.{SeatRow}
use Rattle.fare_law.specs.Book.{Book, Timetable, row_key}
use Rattle.fare_law.specs.Flights.{AreFlights}
use Rattle.fare_law.specs.Lists.{AllDifferent}
use Rattle.case_text.specs.declared.contents.Case.{Case}
use Rattle.case_text.specs.declared.kinds.CaseKind.{CaseKind}
use Rattle.case_text.specs.Entries.{case_of}
use Rattle.schedule_book.specs.declared.faults.SchedFault.{SchedFault}
use Rattle.schedule_book.specs.Faults.{Fault, PlacesDiffer, RowsRight}
use Rattle.seat_classes.specs.Given.{FirstRepeat}
use Rattle.whole_case.specs.declared.refusals.Reason.TheVariants.{Twice}
use Rattle.whole_case.specs.Refusals.{of_form, of_rows, refused_at}
use Rattle.whole_case.specs.Stages.{Stage, done, told, ◌>>=◌}

-- the sections of a case of this kind, or the first fault of form
abbrev pub sections_in : CaseKind → List ℕ → Stage Case
sections_in kind bytes = told (case_of kind bytes) of_form

-- the dated flights of places and flight rows without a fault, or their first fault
abbrev pub flights_of : List PlaceRow → List FlightRow → Stage (List Flight)
flights_of places rows (Ok flights) = PlacesDiffer places × RowsRight places rows × AreFlights rows flights
flights_of places rows (Err refusal) = (fault : SchedFault) × Fault places rows fault × (of_rows fault ≡ Some refusal)

-- seat rows of which no two are of one carrier, number, origin and day, or the first that is as an earlier one
abbrev pub seats_apart : List SeatRow → Stage (Unit {0})
seats_apart rows (Ok u) = AllDifferent (map row_key rows)
seats_apart rows (Err refusal) = (line : ℕ) × FirstRepeat rows line × (refusal ≡ refused_at line Twice)

-- the timetable that these rows are
abbrev pub timetable_of : List PlaceRow → List FlightRow → List SeatRow → Stage Timetable
timetable_of places rows seats = do
  flights ← flights_of places rows
  _ ← seats_apart seats
  done (record { places = places; flights = flights; seats = seats })

-- the book of that timetable, before any filing
abbrev pub opening_of : List PlaceRow → List FlightRow → List SeatRow → Stage Book
opening_of places rows seats = do
  timetable ← timetable_of places rows seats
  done (record { timetable = timetable; entries = [] })
