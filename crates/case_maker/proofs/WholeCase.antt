-- The lines of a made case are read as its sections.
use Rattle.std.proofs.Common.{◌≡◌, ◌≢◌, ◌≤◌, ◌<◌, ◌+◌, ◌∙◌, ℕ, true, false, List, [], ◌∷◌, ◌++◌, length, map, codes, append-nil, Result, Ok, refl, sym, ap, subst, arith, nat_lt}
use Rattle.std.proofs.lemmas.Bool.Decides.{nat_tests}
use Rattle.std.specs.List.{list_all}
use Rattle.std.specs.Str.Lines.{lines}
use Rattle.case_text.specs.declared.contents.Case.{Case}
use Rattle.case_text.specs.declared.contents.Entry.{Entry}
use Rattle.case_text.specs.declared.contents.Entry.TheVariants.{Opens, Place, Flight, Seat, Text}
use Rattle.case_text.specs.declared.headers.Header.TheVariants.{Places, Flights, Seats, Filings, Request, End}
use Rattle.case_text.specs.declared.kinds.CaseKind.TheVariants.{Search}
use Rattle.case_text.specs.Contents.{case_with, flights_in, lines_in, places_in, seats_in}
use Rattle.case_text.specs.Entries.{at_start, begins_header, case_of, entries, ◌>>=◌}
use Rattle.case_text.specs.Lines.{numbered}
use Rattle.case_text.specs.Rows.{flight_row, place_row, seat_row}
use Rattle.fare_law.specs.declared.rows.TextLine.{TextLine}
use Rattle.fare_law.specs.Lists.{Each, Matched, OnLast}
use Rattle.law_lemmas.proofs.EachOne.{each_append, each_weaker}
use Rattle.law_lemmas.proofs.Pairs.{matched_long}
use Rattle.law_lemmas.proofs.Tests.{both_true}
use Rattle.case_maker.specs.Lines.{legs, place_names}
use Rattle.case_maker.specs.Made.{whole_lines}
use Rattle.case_maker.specs.Sections.{IsFlightOf, IsPlaceOf, IsSeatsOf, request_line}
use Rattle.case_maker.proofs.Columns.{IsRowByte, no_header}
use Rattle.case_maker.proofs.RowsRead.{IsRowLine, line_of}
use Rattle.case_maker.proofs.SectionEntries.{IsReadAs, IsTable, all_of, in_section, none_of, rows_before}
use Rattle.search_check.proofs.TextLines.{IsRead, numbered_first, numbered_more}

-- ---- what a line is read as

-- a line that is no header, which is read as a row of this
pub record ReadsAs {X A : Type 0} (read : TextLine → Result A ℕ) (Of : X → A → Type 0) (x : X) (line : List ℕ) : Type 0 where
  pub is : IsRowLine line
  pub gives : (n : ℕ) → (a : A) × (read (line_of n line) ≡ Ok a) × Of x a

-- the rows that lines are read as
pub record Rows {X A : Type 0} (read : TextLine → Result A ℕ) (Of : X → A → Type 0) (xs : List X) (ls : List TextLine) : Type 0 where
  pub rows : List A
  pub reads : Matched (IsReadAs read) ls rows
  pub are : Matched Of xs rows

rows_of : {X A : Type 0} (read : TextLine → Result A ℕ) (Of : X → A → Type 0) (n : ℕ) (xs : List X) (ls : List (List ℕ)) → Matched (ReadsAs read Of) xs ls → Rows read Of xs (numbered n ls)
rows_of read Of n [] [] m = record { rows = []; reads = tt; are = tt }
rows_of read Of n [] (l ∷ ls) m = absurd m
rows_of read Of n (x ∷ xs) [] m = absurd m
rows_of read Of n (x ∷ xs) (l ∷ ls) m =
    let r = m.0 in
    let one = r.gives n in
    let more = rows_of read Of (n + 1) xs ls m.1 in
    subst (λ ts. Rows read Of (x ∷ xs) ts) (sym (numbered_first n l ls r.is.some)) (record { rows = one.0 ∷ more.rows; reads = ((no_header l r.is.bytes, one.1), more.reads); are = (one.2, more.are) })

-- ---- lines are read as they were written

abbrev pub IsTextByte : ℕ → Type 0
IsTextByte b = 14 ≤ b

last_of : (line : List ℕ) → Each IsTextByte line → 0 < length line → OnLast (λ b. b ≢ 13) line
last_of [] h some = absurd (omega (arith, some))
last_of (x ∷ []) h some = λ e. omega (arith, e, h.0)
last_of (x ∷ y ∷ ys) h some = last_of (y ∷ ys) h.1 (omega arith)

pub written : (line : List ℕ) → Each IsTextByte line → 0 < length line → IsRead line
written line h some = record { free = each_weaker IsTextByte (λ b. b ≢ 10) (λ b low e. omega (arith, low, e)) line h; last = last_of line h some }

row_written : (line : List ℕ) → IsRowLine line → IsRead line
row_written line h = written line (each_weaker IsRowByte IsTextByte (λ b k. let a = k.low in omega (arith, a)) line h.bytes) h.some

rows_written : {X A : Type 0} (read : TextLine → Result A ℕ) (Of : X → A → Type 0) (xs : List X) (ls : List (List ℕ)) → Matched (ReadsAs read Of) xs ls → Each IsRead ls
rows_written read Of [] [] m = tt
rows_written read Of [] (l ∷ ls) m = absurd m
rows_written read Of (x ∷ xs) [] m = absurd m
rows_written read Of (x ∷ xs) (l ∷ ls) m = (row_written l m.0.is, rows_written read Of xs ls m.1)

pub known_bytes : (line : List ℕ) → list_all (λ b. nat_lt 13 b) line ≡ true → Each IsTextByte line
known_bytes [] e = tt
known_bytes (b ∷ line) e = let h = both_true (nat_lt 13 b) (list_all (λ c. nat_lt 13 c) line) e in (byte b h.0, known_bytes line h.1)
  where
    byte : (b : ℕ) → nat_lt 13 b ≡ true → 14 ≤ b
    byte b e = grind (arith, nat_tests)

known : (line : List ℕ) → list_all (λ b. nat_lt 13 b) line ≡ true → 0 < length line → IsRead line
known line e some = written line (known_bytes line e) some

-- ---- the tables

places_table : IsTable Places Place place_row 1000
places_table = record { on = refl; headers = λ line. refl; room = refl; reads = λ l. refl; moves = λ count a. refl }

flights_table : IsTable Flights Flight flight_row 5000
flights_table = record { on = refl; headers = λ line. refl; room = refl; reads = λ l. refl; moves = λ count a. refl }

seats_table : IsTable Seats Seat seat_row 200000
seats_table = record { on = refl; headers = λ line. refl; room = refl; reads = λ l. refl; moves = λ count a. refl }

-- ---- the lines of a case, one section after another

-- The lines of a made case, each read as what it is of.
pub record ReadLines (size : ℕ) : Type 0 where
  pub places : List (List ℕ)
  pub flights : List (List ℕ)
  pub seats : List (List ℕ)
  pub filing : List ℕ
  pub place_lines : Matched (ReadsAs place_row IsPlaceOf) (place_names size) places
  pub flight_lines : Matched (ReadsAs flight_row IsFlightOf) (legs size) flights
  pub seat_lines : Matched (ReadsAs seat_row IsSeatsOf) (legs size) seats
  pub few_places : length places ≤ 1000
  pub few_flights : length flights ≤ 5000
  pub few_seats : length seats ≤ 200000
  pub filing_bytes : Each IsTextByte filing
  pub filing_some : 0 < length filing
  pub filing_plain : begins_header filing ≡ false

module _ (size : ℕ) (r : ReadLines size) where
  abbrev places : List (List ℕ)
  places = r.places

  abbrev flights : List (List ℕ)
  flights = r.flights

  abbrev seats : List (List ℕ)
  seats = r.seats

  abbrev filing : List ℕ
  filing = r.filing

  abbrev last_lines : List (List ℕ)
  last_lines = codes "#filings" ∷ filing ∷ codes "#request" ∷ request_line ∷ codes "#end" ∷ []

  pub all_read : Each IsRead (whole_lines places flights seats filing)
  all_read = (
    known (codes "#places") refl (omega arith),
    each_append IsRead places _ (rows_written place_row IsPlaceOf (place_names size) places r.place_lines) (
      known (codes "#flights") refl (omega arith),
      each_append IsRead flights _ (rows_written flight_row IsFlightOf (legs size) flights r.flight_lines) (
        known (codes "#seats") refl (omega arith),
        each_append IsRead seats last_lines (rows_written seat_row IsSeatsOf (legs size) seats r.seat_lines)
            (known (codes "#filings") refl (omega arith), (written filing r.filing_bytes r.filing_some, (known (codes "#request") refl (omega arith), (known request_line refl (omega arith), (known (codes "#end") refl (omega arith), tt))))),
      ),
    ),
  )

  -- the numbers of the headers' lines
  abbrev at_flights : ℕ
  at_flights = 2 + length places

  abbrev at_seats : ℕ
  at_seats = at_flights + 1 + length flights

  abbrev at_filings : ℕ
  at_filings = at_seats + 1 + length seats

  abbrev last_numbered : List TextLine
  last_numbered = line_of at_filings (codes "#filings") ∷ line_of (at_filings + 1) filing ∷ line_of (at_filings + 1 + 1) (codes "#request") ∷ line_of (at_filings + 1 + 1 + 1) request_line ∷ line_of (at_filings + 1 + 1 + 1 + 1) (codes "#end") ∷ []

  numbers : numbered 1 (whole_lines places flights seats filing)
      ≡ line_of 1 (codes "#places") ∷ (numbered 2 places ++ line_of at_flights (codes "#flights") ∷ (numbered (at_flights + 1) flights ++ line_of at_seats (codes "#seats") ∷ (numbered (at_seats + 1) seats ++ last_numbered)))
  numbers =
      ap (λ ts. line_of 1 (codes "#places") ∷ ts) (numbered_more 2 places (codes "#flights" ∷ (flights ++ codes "#seats" ∷ (seats ++ last_lines)))
      ∙ ap (λ ts. numbered 2 places ++ line_of at_flights (codes "#flights") ∷ ts) (numbered_more (at_flights + 1) flights (codes "#seats" ∷ (seats ++ last_lines))
      ∙ ap (λ ts. numbered (at_flights + 1) flights ++ line_of at_seats (codes "#seats") ∷ ts) (numbered_more (at_seats + 1) seats last_lines
      ∙ ap (λ ts. numbered (at_seats + 1) seats ++ line_of at_filings (codes "#filings") ∷ ts) (numbered_first (at_filings + 1) filing (codes "#request" ∷ request_line ∷ codes "#end" ∷ []) r.filing_some))))

  pub place_rows : Rows place_row IsPlaceOf (place_names size) (numbered 2 places)
  place_rows = rows_of place_row IsPlaceOf 2 (place_names size) places r.place_lines

  pub flight_rows : Rows flight_row IsFlightOf (legs size) (numbered (at_flights + 1) flights)
  flight_rows = rows_of flight_row IsFlightOf (at_flights + 1) (legs size) flights r.flight_lines

  pub seat_rows : Rows seat_row IsSeatsOf (legs size) (numbered (at_seats + 1) seats)
  seat_rows = rows_of seat_row IsSeatsOf (at_seats + 1) (legs size) seats r.seat_lines

  abbrev pub filing_line : TextLine
  filing_line = line_of (at_filings + 1) filing

  abbrev pub asked_line : TextLine
  asked_line = line_of (at_filings + 1 + 1 + 1) request_line

  abbrev last_entries : List Entry
  last_entries = Opens Filings at_filings ∷ Text Filings filing_line ∷ Opens Request (at_filings + 1 + 1) ∷ Text Request asked_line ∷ Opens End (at_filings + 1 + 1 + 1 + 1) ∷ []

  abbrev found : List Entry
  found = Opens Places 1 ∷ (map Place place_rows.rows ++ Opens Flights at_flights ∷ (map Flight flight_rows.rows ++ Opens Seats at_seats ∷ (map Seat seat_rows.rows ++ last_entries)))

  last_read : (next count : ℕ) → entries Search next (in_section Seats count) last_numbered ≡ Ok last_entries
  last_read next count = rw (r.filing_plain) refl

  many : {U A : Type 0} (read : TextLine → Result A ℕ) (Of : U → A → Type 0) (us : List U) (n : ℕ) (ls : List (List ℕ)) → Matched (ReadsAs read Of) us ls → (z : Rows read Of us (numbered n ls)) → length (numbered n ls) ≡ length ls
  many read Of us n ls m z = omega (arith, matched_long (IsReadAs read) (numbered n ls) z.rows z.reads, matched_long Of us z.rows z.are, matched_long (ReadsAs read Of) us ls m)

  seats_entries : (next count : ℕ) → entries Search next (in_section Flights count) (line_of at_seats (codes "#seats") ∷ (numbered (at_seats + 1) seats ++ last_numbered)) ≡ Ok (Opens Seats at_seats ∷ (map Seat seat_rows.rows ++ last_entries))
  seats_entries next count =
      ap (λ x. x >>= (λ more. Ok (Opens Seats at_seats ∷ more)))
      (rows_before Seats Seat seat_row 200000 seats_table next 0 (numbered (at_seats + 1) seats) seat_rows.rows last_numbered last_entries seat_rows.reads
      (omega (arith, r.few_seats, many seat_row IsSeatsOf (legs size) (at_seats + 1) seats r.seat_lines seat_rows)) (last_read next (0 + length (numbered (at_seats + 1) seats))))

  flights_entries : (next count : ℕ)
      → entries Search next (in_section Places count) (line_of at_flights (codes "#flights") ∷ (numbered (at_flights + 1) flights ++ line_of at_seats (codes "#seats") ∷ (numbered (at_seats + 1) seats ++ last_numbered)))
      ≡ Ok (Opens Flights at_flights ∷ (map Flight flight_rows.rows ++ Opens Seats at_seats ∷ (map Seat seat_rows.rows ++ last_entries)))
  flights_entries next count =
      ap (λ x. x >>= (λ more. Ok (Opens Flights at_flights ∷ more)))
      (rows_before Flights Flight flight_row 5000 flights_table next 0 (numbered (at_flights + 1) flights) flight_rows.rows _ _ flight_rows.reads
      (omega (arith, r.few_flights, many flight_row IsFlightOf (legs size) (at_flights + 1) flights r.flight_lines flight_rows)) (seats_entries next (0 + length (numbered (at_flights + 1) flights))))

  places_entries : (next : ℕ) → entries Search next at_start (numbered 1 (whole_lines places flights seats filing)) ≡ Ok found
  places_entries next =
      ap (entries Search next at_start) numbers
      ∙ ap (λ x. x >>= (λ more. Ok (Opens Places 1 ∷ more)))
      (rows_before Places Place place_row 1000 places_table next 0 (numbered 2 places) place_rows.rows _ _ place_rows.reads
      (omega (arith, r.few_places, many place_row IsPlaceOf (place_names size) 2 places r.place_lines place_rows)) (flights_entries next (0 + length (numbered 2 places))))

  abbrev pub whole : Case
  whole = case_with found

  pub is_spelled : (bytes : List ℕ) → lines bytes ≡ whole_lines places flights seats filing → case_of Search bytes ≡ Ok whole
  is_spelled bytes e =
      ap (λ ls. entries Search (length (lines bytes) + 1) at_start (numbered 1 ls) >>= (λ (z : List Entry). Ok (case_with z))) e
      ∙ ap (λ x. x >>= (λ (z : List Entry). Ok (case_with z))) (places_entries (length (lines bytes) + 1))

  abbrev after_flights : List Entry
  after_flights = Opens Seats at_seats ∷ (map Seat seat_rows.rows ++ last_entries)

  abbrev after_places : List Entry
  after_places = Opens Flights at_flights ∷ (map Flight flight_rows.rows ++ after_flights)

  pub its_places : whole.places ≡ place_rows.rows
  its_places =
      all_of Place places_in (λ a. refl) place_rows.rows after_places
      ∙ ap (λ rs. place_rows.rows ++ rs) (none_of Flight places_in (λ a. refl) flight_rows.rows after_flights ∙ none_of Seat places_in (λ a. refl) seat_rows.rows last_entries)
      ∙ append-nil place_rows.rows

  pub its_flights : whole.flights ≡ flight_rows.rows
  its_flights =
      none_of Place flights_in (λ a. refl) place_rows.rows after_places ∙ all_of Flight flights_in (λ a. refl) flight_rows.rows after_flights
      ∙ ap (λ rs. flight_rows.rows ++ rs) (none_of Seat flights_in (λ a. refl) seat_rows.rows last_entries) ∙ append-nil flight_rows.rows

  pub its_seats : whole.seats ≡ seat_rows.rows
  its_seats =
      none_of Place seats_in (λ a. refl) place_rows.rows after_places ∙ none_of Flight seats_in (λ a. refl) flight_rows.rows after_flights
      ∙ all_of Seat seats_in (λ a. refl) seat_rows.rows last_entries ∙ append-nil seat_rows.rows

  pub its_filings : whole.filings ≡ filing_line ∷ []
  its_filings =
      none_of Place (lines_in Filings) (λ a. refl) place_rows.rows after_places ∙ none_of Flight (lines_in Filings) (λ a. refl) flight_rows.rows after_flights
      ∙ none_of Seat (lines_in Filings) (λ a. refl) seat_rows.rows last_entries

  pub its_requests : whole.requests ≡ asked_line ∷ []
  its_requests =
      none_of Place (lines_in Request) (λ a. refl) place_rows.rows after_places ∙ none_of Flight (lines_in Request) (λ a. refl) flight_rows.rows after_flights
      ∙ none_of Seat (lines_in Request) (λ a. refl) seat_rows.rows last_entries
