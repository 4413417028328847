-- Lines that were read, and lines that are left.
use Rattle.std.proofs.Common.{◌≡◌, ◌<◌, ◌≤◌, ◌+◌, ℕ, List, [], ◌∷◌, ◌++◌, length, drop, get_or, map, refl, ap, sym, ◌∙◌, append_assoc, append-nil, add-one, Result, Ok, Err, drop-cons, true, false, cond}
use Rattle.std.proofs.lemmas.List.{drop_all}
use Rattle.std.specs.List.{flat_map}
use Rattle.fare_law.specs.declared.rows.TextLine.{TextLine}
use Rattle.fare_law.specs.Limits.{IsFlightRow, IsPlaceRow, IsSeatRow}
use Rattle.case_text.specs.declared.contents.Case.{Case}
use Rattle.case_text.specs.declared.contents.Entry.{Entry}
use Rattle.case_text.specs.declared.contents.Entry.TheVariants.{Opens, Place, Flight, Seat, Text}
use Rattle.case_text.specs.declared.faults.CaseFault.{CaseFault}
use Rattle.case_text.specs.declared.faults.CaseFault.TheVariants.{NoEnd}
use Rattle.case_text.specs.declared.headers.Header.{Header}
use Rattle.case_text.specs.declared.headers.Header.TheVariants.{Places, Flights, Seats, Filings, Later, Request, Script, Certificate, Ticket, End}
use Rattle.case_text.specs.declared.kinds.CaseKind.{CaseKind}
use Rattle.case_text.specs.declared.lines.Line.{Line}
use Rattle.case_text.specs.declared.standing.Standing.{Standing}
use Rattle.case_text.specs.Contents.{case_with, added, after_header, end_after, line_added, lines_in, no_contents, places_in, flights_in, seats_in}
use Rattle.case_text.specs.Entries.{entries, judged, moved, is_over, at_start, case_read, ◌>>=◌}
use Rattle.case_text.specs.Limits.{HasRows, KeepsLimits}
use Rattle.case_text.specs.Lines.{shown}
use Rattle.law_lemmas.proofs.EachOne.{each_more}

-- a case with further entries, each at the end of its section
abbrev pub joined : Case → List Entry → Case
joined a more = record {
  places = a.places ++ flat_map places_in more;
  flights = a.flights ++ flat_map flights_in more;
  seats = a.seats ++ flat_map seats_in more;
  filings = a.filings ++ flat_map (lines_in Filings) more;
  later = a.later ++ flat_map (lines_in Later) more;
  requests = a.requests ++ flat_map (lines_in Request) more;
  script = a.script ++ flat_map (lines_in Script) more;
  certificate = a.certificate ++ flat_map (lines_in Certificate) more;
  ticket = a.ticket ++ flat_map (lines_in Ticket) more;
  end = end_after a.end more;
}

-- what stands before, and what is still to be read
abbrev pub read_on : Case → Result (List Entry) CaseFault → Result Case CaseFault
read_on before (Ok found) = Ok (joined before found)
read_on before (Err fault) = Err fault

-- what the lines from a place on give, after what stands before them
abbrev pub from_line : CaseKind → ℕ → Standing → Case → ℕ → List Line → Result Case CaseFault
from_line kind next standing before i lines = read_on before (entries kind next standing (map shown (drop i lines)))

append_cons : {A : Type 0} (xs : List A) (x : A) (ys : List A) → (xs ++ x ∷ []) ++ ys ≡ xs ++ x ∷ ys
append_cons xs x ys = append_assoc xs (x ∷ []) ys

-- one line more before the others
line_first : (before : Case) (header : Header) (line : TextLine) (found : List Entry) → joined (line_added before header line) found ≡ joined before (Text header line ∷ found)
line_first before Filings line found = rw (append_cons before.filings line (flat_map (lines_in Filings) found)) refl
line_first before Later line found = rw (append_cons before.later line (flat_map (lines_in Later) found)) refl
line_first before Request line found = rw (append_cons before.requests line (flat_map (lines_in Request) found)) refl
line_first before Script line found = rw (append_cons before.script line (flat_map (lines_in Script) found)) refl
line_first before Certificate line found = rw (append_cons before.certificate line (flat_map (lines_in Certificate) found)) refl
line_first before Ticket line found = rw (append_cons before.ticket line (flat_map (lines_in Ticket) found)) refl
line_first before Places line found = refl
line_first before Flights line found = refl
line_first before Seats line found = refl
line_first before End line found = refl

header_first : (before : Case) (header : Header) (line : ℕ) (found : List Entry) → joined (after_header before header line) found ≡ joined before (Opens header line ∷ found)
header_first before Filings line found = refl
header_first before Later line found = refl
header_first before Request line found = refl
header_first before Script line found = refl
header_first before Certificate line found = refl
header_first before Ticket line found = refl
header_first before Places line found = refl
header_first before Flights line found = refl
header_first before Seats line found = refl
header_first before End line found = refl

-- one entry more before the others
added_first : (before : Case) (entry : Entry) (found : List Entry) → joined (added before entry) found ≡ joined before (entry ∷ found)
added_first before (Opens header line) found = header_first before header line found
added_first before (Place row) found = rw (append_cons before.places row (flat_map places_in found)) refl
added_first before (Flight row) found = rw (append_cons before.flights row (flat_map flights_in found)) refl
added_first before (Seat row) found = rw (append_cons before.seats row (flat_map seats_in found)) refl
added_first before (Text header line) found = line_first before header line found

-- a header and a line of a section without rows add no row
headed_rows : (before : Case) (header : Header) (line : ℕ) → HasRows before → HasRows (after_header before header line)
headed_rows before Places line h = h
headed_rows before Flights line h = h
headed_rows before Seats line h = h
headed_rows before Filings line h = h
headed_rows before Later line h = h
headed_rows before Request line h = h
headed_rows before Script line h = h
headed_rows before Certificate line h = h
headed_rows before Ticket line h = h
headed_rows before End line h = record { places = h.places; flights = h.flights; seats = h.seats }

lined_rows : (before : Case) (header : Header) (line : TextLine) → HasRows before → HasRows (line_added before header line)
lined_rows before Places line h = h
lined_rows before Flights line h = h
lined_rows before Seats line h = h
lined_rows before Filings line h = record { places = h.places; flights = h.flights; seats = h.seats }
lined_rows before Later line h = record { places = h.places; flights = h.flights; seats = h.seats }
lined_rows before Request line h = record { places = h.places; flights = h.flights; seats = h.seats }
lined_rows before Script line h = record { places = h.places; flights = h.flights; seats = h.seats }
lined_rows before Certificate line h = record { places = h.places; flights = h.flights; seats = h.seats }
lined_rows before Ticket line h = record { places = h.places; flights = h.flights; seats = h.seats }
lined_rows before End line h = h

-- one entry more, and all rows are still within their limits
pub rows_added : (before : Case) (entry : Entry) → HasRows before → KeepsLimits entry → HasRows (added before entry)
rows_added before (Opens header line) h k = headed_rows before header line h
rows_added before (Place row) h k = record { places = each_more IsPlaceRow before.places row h.places k; flights = h.flights; seats = h.seats }
rows_added before (Flight row) h k = record { places = h.places; flights = each_more IsFlightRow before.flights row h.flights k; seats = h.seats }
rows_added before (Seat row) h k = record { places = h.places; flights = h.flights; seats = each_more IsSeatRow before.seats row h.seats k }
rows_added before (Text header line) h k = lined_rows before header line h

-- a case before nothing
joined_none : (before : Case) → joined before [] ≡ before
joined_none before =
    rw (append-nil before.places, append-nil before.flights, append-nil before.seats, append-nil before.filings, append-nil before.later, append-nil before.requests, append-nil before.script, append-nil before.certificate, append-nil before.ticket) refl

-- the lines from a place on
here : (lines : List Line) (i : ℕ) (d : Line) → i < length lines → drop i lines ≡ get_or lines i d ∷ drop (i + 1) lines
here lines i d l = rw (drop-cons lines i d l, add-one) refl

pub read_start : (kind : CaseKind) (next : ℕ) (lines : List Line) → from_line kind next at_start no_contents 0 lines ≡ case_read kind next (map shown lines)
read_start kind next lines = go (entries kind next at_start (map shown lines))
  where
    go : (found : Result (List Entry) CaseFault) → read_on no_contents found ≡ (found >>= (λ es. Ok (case_with es)))
    go (Ok es) = refl
    go (Err fault) = refl

-- what follows an entry, after what stands before
follows : (before : Case) (entry : Entry) (more : Result (List Entry) CaseFault) → read_on before (more >>= (λ es. Ok (entry ∷ es))) ≡ read_on (added before entry) more
follows before entry (Ok es) = ap Ok (sym (added_first before entry es))
follows before entry (Err fault) = refl

-- the line at a place, and the lines after it
line_here : (kind : CaseKind) (next : ℕ) (standing : Standing) (before : Case) (i : ℕ) (lines : List Line) (d : Line) → i < length lines
    → from_line kind next standing before i lines
    ≡ read_on before (judged kind standing (shown (get_or lines i d)) >>= (λ entry. entries kind next (moved standing entry) (map shown (drop (i + 1) lines)) >>= (λ es. Ok (entry ∷ es))))
line_here kind next standing before i lines d l = ap (λ ls. read_on before (entries kind next standing (map shown ls))) (here lines i d l)

pub read_entry : (kind : CaseKind) (next : ℕ) (standing : Standing) (before : Case) (i : ℕ) (lines : List Line) (d : Line) (entry : Entry) → i < length lines
    → judged kind standing (shown (get_or lines i d)) ≡ Ok entry
    → from_line kind next standing before i lines ≡ case_read kind next (map shown lines)
    → from_line kind next (moved standing entry) (added before entry) (i + 1) lines ≡ case_read kind next (map shown lines)
read_entry kind next standing before i lines d entry l e h =
    sym (line_here kind next standing before i lines d l
    ∙ ap (λ r. read_on before (r >>= (λ entry. entries kind next (moved standing entry) (map shown (drop (i + 1) lines)) >>= (λ es. Ok (entry ∷ es))))) e
    ∙ follows before entry (entries kind next (moved standing entry) (map shown (drop (i + 1) lines))))
    ∙ h

pub read_fault : (kind : CaseKind) (next : ℕ) (standing : Standing) (before : Case) (i : ℕ) (lines : List Line) (d : Line) (fault : CaseFault) → i < length lines
    → judged kind standing (shown (get_or lines i d)) ≡ Err fault
    → from_line kind next standing before i lines ≡ case_read kind next (map shown lines)
    → case_read kind next (map shown lines) ≡ Err fault
read_fault kind next standing before i lines d fault l e h =
    sym h
    ∙ line_here kind next standing before i lines d l
    ∙ ap (λ r. read_on before (r >>= (λ entry. entries kind next (moved standing entry) (map shown (drop (i + 1) lines)) >>= (λ es. Ok (entry ∷ es))))) e

pub read_over : (kind : CaseKind) (next : ℕ) (standing : Standing) (before : Case) (i : ℕ) (lines : List Line) → length lines ≤ i
    → is_over standing.under ≡ true
    → from_line kind next standing before i lines ≡ case_read kind next (map shown lines)
    → case_read kind next (map shown lines) ≡ Ok before
read_over kind next standing before i lines l e h =
    sym h
    ∙ ap (λ ls. read_on before (entries kind next standing (map shown ls))) (drop_all i lines l)
    ∙ ap (λ b. read_on before (cond b (Ok []) (Err (NoEnd next)))) e
    ∙ ap Ok (joined_none before)

pub read_no_end : (kind : CaseKind) (next : ℕ) (standing : Standing) (before : Case) (i : ℕ) (lines : List Line) → length lines ≤ i
    → is_over standing.under ≡ false
    → from_line kind next standing before i lines ≡ case_read kind next (map shown lines)
    → case_read kind next (map shown lines) ≡ Err (NoEnd next)
read_no_end kind next standing before i lines l e h =
    sym h
    ∙ ap (λ ls. read_on before (entries kind next standing (map shown ls))) (drop_all i lines l)
    ∙ ap (λ b. read_on before (cond b (Ok []) (Err (NoEnd next)))) e

pub ruleset reading_steps = (read_start, read_entry, read_fault, read_over, read_no_end)
