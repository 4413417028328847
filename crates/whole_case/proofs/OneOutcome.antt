-- Each stage of what a case asks comes to one thing at most, and so does the whole.
use Rattle.std.proofs.Common.{◌≡◌, ℕ, List, [], ◌∷◌, length, map, Option, Some, None, Result, Ok, Err, refl, sym, ap, subst, ◌∙◌, inl, inr}
use Rattle.fare_law.specs.declared.filings.BookWhy.{BookWhy}
use Rattle.fare_law.specs.declared.filings.Filing.{Filing}
use Rattle.fare_law.specs.declared.flights.Flight.{Flight}
use Rattle.fare_law.specs.declared.requests.Request.{Request}
use Rattle.fare_law.specs.declared.rows.FlightRow.{FlightRow}
use Rattle.fare_law.specs.declared.rows.PlaceRow.{PlaceRow}
use Rattle.fare_law.specs.declared.rows.SeatRow.{SeatRow}
use Rattle.fare_law.specs.declared.rows.TextLine.{TextLine}
use Rattle.fare_law.specs.Book.{Book, Timetable, row_key}
use Rattle.fare_law.specs.Faults.{Fault}
use Rattle.fare_law.specs.Flights.{AreFlights}
use Rattle.fare_law.specs.Lists.{AllDifferent}
use Rattle.case_text.specs.declared.kinds.CaseKind.{CaseKind}
use Rattle.case_text.specs.Entries.{case_of}
use Rattle.fare_filing.specs.Reading.{filing_of}
use Rattle.request_text.specs.Reading.{request_of}
use Rattle.schedule_book.specs.declared.faults.SchedFault.{SchedFault}
use Rattle.schedule_book.specs.Faults.{Fault as HasRowFault, PlacesDiffer, RowsRight}
use Rattle.seat_classes.specs.Given.{FirstRepeat}
use Rattle.whole_case.specs.declared.refusals.Reason.TheVariants.{ActionRefused, BadRequest, Twice}
use Rattle.whole_case.specs.declared.refusals.Refusal.{Refusal}
use Rattle.whole_case.specs.Cases.{asked_case}
use Rattle.whole_case.specs.Filings.{filed, filed_version, filing_in, has_version, kept, next, taken, version}
use Rattle.whole_case.specs.Refusals.{at_line, filing_reason, of_form, of_rows, refused_at, request_reason}
use Rattle.whole_case.specs.Requests.{allowed_in, request_in, sole_request, spelled_in}
use Rattle.whole_case.specs.Stages.{IsOne, Stage, done, told, ◌>>=◌}
use Rattle.whole_case.specs.Timetables.{flights_of, opening_of, seats_apart, sections_in, timetable_of}
use Rattle.whole_case.proofs.AskedSteps.{after_book, after_form, after_opening, after_request, asked_of, opening}
use Rattle.law_lemmas.proofs.Options.{none_some, ok_or_fault, ok_same, some_same}

-- what is known of the layers below, as their law functions give it
pub record Known : Type 0 where
  pub flights : (rows : List FlightRow) (fs gs : List Flight) → AreFlights rows fs → AreFlights rows gs → fs ≡ gs
  pub row_fault : (places : List PlaceRow) (rows : List FlightRow) (fault other : SchedFault) → HasRowFault places rows fault → HasRowFault places rows other → fault ≡ other
  pub no_row_fault : (places : List PlaceRow) (rows : List FlightRow) (fault : SchedFault) → PlacesDiffer places → RowsRight places rows → HasRowFault places rows fault → ⊥
  pub repeat : (rows : List SeatRow) (line other : ℕ) → FirstRepeat rows line → FirstRepeat rows other → line ≡ other
  pub no_repeat : (rows : List SeatRow) (line : ℕ) → AllDifferent (map row_key rows) → FirstRepeat rows line → ⊥
  pub filing_fault : (b : Book) (filing : Filing) (at other : ℕ) (why reason : BookWhy) → Fault b filing at why → Fault b filing other reason → (at ≡ other) × (why ≡ reason)

err_same : {A E : Type 0} (a b : E) → ◌≡◌ {A = Result A E} (Err a) (Err b) → a ≡ b
err_same a b e = cc

-- ---- stages one after another
pub one_done : {A : Type 0} (a : A) → IsOne (done a)
one_done a x y p q = p ∙ sym q

pub one_then : {A B : Type 0} (first : Stage A) (then : A → Stage B) → IsOne first → ((a : A) → IsOne (then a)) → IsOne (first >>= then)
one_then first then f t (Ok b) (Ok c) (a, p, q) (d, r, s) = t a (Ok b) (Ok c) q (subst (λ x. then x (Ok c)) (sym (ok_same a d (f (Ok a) (Ok d) p r))) s)
one_then first then f t (Ok b) (Err refusal) (a, p, q) (inl r) = absurd (ok_or_fault a refusal (f (Ok a) (Err refusal) p r))
one_then first then f t (Ok b) (Err refusal) (a, p, q) (inr (d, r, s)) = t a (Ok b) (Err refusal) q (subst (λ x. then x (Err refusal)) (sym (ok_same a d (f (Ok a) (Ok d) p r))) s)
one_then first then f t (Err refusal) (Ok b) (inl r) (a, p, q) = absurd (ok_or_fault a refusal (f (Ok a) (Err refusal) p r))
one_then first then f t (Err refusal) (Ok b) (inr (d, r, s)) (a, p, q) = t d (Err refusal) (Ok b) s (subst (λ x. then x (Ok b)) (ok_same a d (f (Ok a) (Ok d) p r)) q)
one_then first then f t (Err one) (Err other) (inl p) (inl q) = ap Err (err_same one other (f (Err one) (Err other) p q))
one_then first then f t (Err one) (Err other) (inl p) (inr (a, q, r)) = absurd (ok_or_fault a one (f (Ok a) (Err one) q p))
one_then first then f t (Err one) (Err other) (inr (a, q, r)) (inl p) = absurd (ok_or_fault a other (f (Ok a) (Err other) q p))
one_then first then f t (Err one) (Err other) (inr (a, p, q)) (inr (d, r, s)) = t a (Err one) (Err other) q (subst (λ x. then x (Err other)) (sym (ok_same a d (f (Ok a) (Ok d) p r))) s)

-- what a reader tells
pub one_told : {A F : Type 0} (spelled : Result A F) (refusal_of : F → Option Refusal) → IsOne (told spelled refusal_of)
one_told spelled refusal_of (Ok a) (Ok b) p q = ap Ok (ok_same a b (sym p ∙ q))
one_told spelled refusal_of (Ok a) (Err refusal) p (fault, q, e) = absurd (ok_or_fault a fault (sym p ∙ q))
one_told spelled refusal_of (Err refusal) (Ok a) (fault, q, e) p = absurd (ok_or_fault a fault (sym p ∙ q))
one_told spelled refusal_of (Err one) (Err other) (fault, p, e) (later, q, g) = ap Err (some_same one other (sym e ∙ ap refusal_of (err_same fault later (sym p ∙ q)) ∙ g))

one_allowed : (b : Book) (line : ℕ) (request : Request) → IsOne (allowed_in b line request)
one_allowed b line request (Ok u) (Ok v) p q = refl
one_allowed b line request (Ok u) (Err refusal) p (why, j, e) = absurd (none_some why (sym p ∙ j))
one_allowed b line request (Err refusal) (Ok u) (why, j, e) p = absurd (none_some why (sym p ∙ j))
one_allowed b line request (Err one) (Err other) (why, j, e) (reason, k, h) = ap Err (e ∙ ap (λ w. refused_at line (BadRequest w)) (some_same why reason (sym j ∙ k)) ∙ sym h)

pub one_request : (b : Book) (line : TextLine) → IsOne (request_in b line)
one_request b line =
    one_then (spelled_in line) (λ request. allowed_in b line.line request >>= (λ u. done request)) (one_told (request_of line.bytes) (λ fault. at_line line.line (request_reason fault)))
    (λ request. one_then (allowed_in b line.line request) (λ u. done request) (one_allowed b line.line request) (λ u. one_done request))

one_sole : (b : Book) (lines : List TextLine) → IsOne (sole_request b lines)
one_sole b [] x y p q = absurd p
one_sole b (line ∷ []) x y p q = one_request b line x y p q
one_sole b (line ∷ more ∷ lines) x y p q = absurd p

-- ---- the version
pub one_number : (at : Option ℕ) (count : ℕ) → IsOne (has_version at count)
one_number None count x y p q = p ∙ sym q
one_number (Some n) count x y p q = p ∙ sym q

-- ---- what the layers below know
abbrev timetable_with : List PlaceRow → List SeatRow → List Flight → Timetable
timetable_with places seats flights = record { places = places; flights = flights; seats = seats }

module _ (k : Known) where
  -- ---- the timetable
  one_flights : (places : List PlaceRow) (rows : List FlightRow) → IsOne (flights_of places rows)
  one_flights places rows (Ok fs) (Ok gs) (d, r, a) (d2, r2, b) = ap Ok (k.flights rows fs gs a b)
  one_flights places rows (Ok fs) (Err refusal) (d, r, a) (fault, f, e) = absurd (k.no_row_fault places rows fault d r f)
  one_flights places rows (Err refusal) (Ok fs) (fault, f, e) (d, r, a) = absurd (k.no_row_fault places rows fault d r f)
  one_flights places rows (Err one) (Err other) (fault, f, e) (later, g, h) = ap Err (some_same one other (sym e ∙ ap of_rows (k.row_fault places rows fault later f g) ∙ h))

  one_seats : (rows : List SeatRow) → IsOne (seats_apart rows)
  one_seats rows (Ok u) (Ok v) p q = refl
  one_seats rows (Ok u) (Err refusal) p (line, f, e) = absurd (k.no_repeat rows line p f)
  one_seats rows (Err refusal) (Ok u) (line, f, e) p = absurd (k.no_repeat rows line p f)
  one_seats rows (Err one) (Err other) (line, f, e) (later, g, h) = ap Err (e ∙ ap (λ n. refused_at n Twice) (k.repeat rows line later f g) ∙ sym h)

  one_timetable : (places : List PlaceRow) (rows : List FlightRow) (seats : List SeatRow) → IsOne (timetable_of places rows seats)
  one_timetable places rows seats =
      one_then (flights_of places rows) (λ flights. seats_apart seats >>= (λ u. done (timetable_with places seats flights))) (one_flights places rows)
      (λ flights. one_then (seats_apart seats) (λ u. done (timetable_with places seats flights)) (one_seats seats) (λ u. one_done (timetable_with places seats flights)))

  pub one_opening : (places : List PlaceRow) (rows : List FlightRow) (seats : List SeatRow) → IsOne (opening_of places rows seats)
  one_opening places rows seats = one_then (timetable_of places rows seats) (λ timetable. done (opening timetable)) (one_timetable places rows seats) (λ timetable. one_done (opening timetable))

  -- ---- the filings
  one_taken : (b : Book) (line : ℕ) (filing : Filing) → IsOne (taken b line filing)
  one_taken b line filing (Ok x) (Ok y) (n, p) (m, q) = ap Ok (p ∙ sym q)
  one_taken b line filing (Ok x) (Err refusal) (n, p) (at, why, f, e) = absurd (n at why f)
  one_taken b line filing (Err refusal) (Ok x) (at, why, f, e) (n, p) = absurd (n at why f)
  one_taken b line filing (Err one) (Err other) (at, why, f, e) (later, reason, g, h) =
      let same = k.filing_fault b filing at later why reason f g in
      ap Err (e ∙ ap (λ n. refused_at line (ActionRefused n why)) same.0 ∙ ap (λ w. refused_at line (ActionRefused later w)) same.1 ∙ sym h)

  one_next : (b : Book) (line : TextLine) → IsOne (next b line)
  one_next b line = one_then (filing_in line) (taken b line.line) (one_told (filing_of line.bytes) (λ fault. at_line line.line (filing_reason fault))) (one_taken b line.line)

  one_filed : (lines : List TextLine) (b : Book) → IsOne (filed b lines)
  one_filed [] b = one_done b
  one_filed (line ∷ lines) b = one_then (next b line) (λ more. filed more lines) (one_next b line) (λ more. one_filed lines more)

  pub one_version : (opening : Book) (lines : List TextLine) (at : Option ℕ) → IsOne (filed_version opening lines at)
  one_version opening lines at = one_then (filed opening lines) (λ last. done (version (kept at (length lines)) last)) (one_filed lines opening) (λ last. one_done (version (kept at (length lines)) last))

  -- ---- the whole
  pub one_asked_case : (kind : CaseKind) (at : Option ℕ) (bytes : List ℕ) → IsOne (asked_case kind at bytes)
  one_asked_case kind at bytes =
      one_then (sections_in kind bytes) (after_form at) (one_told (case_of kind bytes) of_form) (λ case.
      one_then (opening_of case.places case.flights case.seats) (after_opening at case) (one_opening case.places case.flights case.seats) (λ opening.
      one_then (filed_version opening case.filings at) (after_book case) (one_version opening case.filings at) (λ book.
      one_then (sole_request book case.requests) (after_request case book) (one_sole book case.requests) (λ request.
      one_done (asked_of case book request)))))
