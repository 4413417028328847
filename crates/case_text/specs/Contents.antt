-- What stands in a case: its entries by their sections, and the line of #end.
use Rattle.std.specs.Prelude.{ℕ, List, [], ◌∷◌, ◌++◌, if◌then◌else◌}
use Rattle.std.specs.List.{flat_map}
use Rattle.fare_law.specs.declared.rows.FlightRow.{FlightRow}
use Rattle.fare_law.specs.declared.rows.PlaceRow.{PlaceRow}
use Rattle.fare_law.specs.declared.rows.SeatRow.{SeatRow}
use Rattle.fare_law.specs.declared.rows.TextLine.{TextLine}
use Rattle.case_text.specs.declared.contents.Case.{Case}
use Rattle.case_text.specs.declared.contents.Entry.{Entry}
use Rattle.case_text.specs.declared.contents.Entry.TheVariants.{Opens, Place, Flight, Seat, Text}
use Rattle.case_text.specs.declared.headers.Header.{Header}
use Rattle.case_text.specs.declared.headers.Header.TheVariants.{Places, Flights, Seats, Filings, Later, Request, Script, Certificate, Ticket, End}
use Rattle.case_text.specs.Headers.{is_named, name_of}

-- the rows that an entry is
abbrev pub places_in : Entry → List PlaceRow
places_in (Place row) = row ∷ []
places_in entry = []

abbrev pub flights_in : Entry → List FlightRow
flights_in (Flight row) = row ∷ []
flights_in entry = []

abbrev pub seats_in : Entry → List SeatRow
seats_in (Seat row) = row ∷ []
seats_in entry = []

-- the lines that an entry adds to a section without rows
abbrev pub lines_in : Header → Entry → List TextLine
lines_in section (Text header line) = if is_named (name_of header) section then line ∷ [] else []
lines_in section entry = []

-- the line of the last of these entries that is #end, or else this one
abbrev pub end_after : ℕ → List Entry → ℕ
end_after line [] = line
end_after line (Opens End at ∷ more) = end_after at more
end_after line (entry ∷ more) = end_after line more

-- the case that has these entries
abbrev pub case_with : List Entry → Case
case_with entries = record {
  places = flat_map places_in entries;
  flights = flat_map flights_in entries;
  seats = flat_map seats_in entries;
  filings = flat_map (lines_in Filings) entries;
  later = flat_map (lines_in Later) entries;
  requests = flat_map (lines_in Request) entries;
  script = flat_map (lines_in Script) entries;
  certificate = flat_map (lines_in Certificate) entries;
  ticket = flat_map (lines_in Ticket) entries;
  end = end_after 0 entries;
}

-- a case with nothing in it
abbrev pub no_contents : Case
no_contents = case_with []

-- a case with one line more in a section without rows
abbrev pub line_added : Case → Header → TextLine → Case
line_added c Filings line = record c { filings = c.filings ++ line ∷ [] }
line_added c Later line = record c { later = c.later ++ line ∷ [] }
line_added c Request line = record c { requests = c.requests ++ line ∷ [] }
line_added c Script line = record c { script = c.script ++ line ∷ [] }
line_added c Certificate line = record c { certificate = c.certificate ++ line ∷ [] }
line_added c Ticket line = record c { ticket = c.ticket ++ line ∷ [] }
line_added c Places line = c
line_added c Flights line = c
line_added c Seats line = c
line_added c End line = c

-- a case after this header
abbrev pub after_header : Case → Header → ℕ → Case
after_header c End line = record c { end = line }
after_header c header line = c

-- a case with one entry more
abbrev pub added : Case → Entry → Case
added c (Opens header line) = after_header c header line
added c (Place row) = record c { places = c.places ++ row ∷ [] }
added c (Flight row) = record c { flights = c.flights ++ row ∷ [] }
added c (Seat row) = record c { seats = c.seats ++ row ∷ [] }
added c (Text header line) = line_added c header line
