-- The request of a case that is spelled is right, also with another number of tickets within its limits, and has the days of its calendar.
use Rattle.std.proofs.Common.{◌≡◌, ℕ, Bool, true, false, if◌then◌else◌, List, [], ◌∷◌, length, Option, Some, None, IfSome, Result, Ok, Err, refl, sym, subst}
use Rattle.std.specs.Int.{IsInRange}
use Rattle.std.proofs.lemmas.Bool.{and_from, le-leb}
use borrow.Author.Tests.{eqb-true}
use Rattle.fare_law.specs.declared.names.Place.{Place}
use Rattle.fare_law.specs.declared.requests.Request.{Request}
use Rattle.fare_law.specs.declared.requests.Why.TheVariants.{Slices, Party, Best}
use Rattle.fare_law.specs.declared.rows.TextLine.{TextLine}
use Rattle.fare_law.specs.Book.{Book}
use Rattle.fare_law.specs.Requests.{judged, known_places, within}
use Rattle.fare_law.specs.declared.limits.TheConstants.{MOST_PASSENGERS, MOST_SLICES, MOST_TICKETS}
use Rattle.case_text.specs.declared.kinds.CaseKind.{CaseKind}
use Rattle.case_text.specs.declared.kinds.CaseKind.TheVariants.{Search, Check, Verdict}
use Rattle.whole_case.specs.declared.asked.AskedCase.{AskedCase}
use Rattle.whole_case.specs.declared.calendar.CalendarCase.{CalendarCase}
use Rattle.whole_case.specs.declared.check.CheckCase.{CheckCase}
use Rattle.whole_case.specs.declared.search.SearchCase.{SearchCase}
use Rattle.whole_case.specs.declared.refusals.Refusal.{Refusal}
use Rattle.whole_case.specs.declared.verdict.VerdictCase.{VerdictCase}
use Rattle.whole_case.specs.Calendars.{spans_fit}
use Rattle.whole_case.specs.Cases.{asked_case, calendar_case, check_case, search_case, verdict_case}
use Rattle.whole_case.specs.Requests.{sole_request, with_best}
use Rattle.whole_case.proofs.AskedSteps.{asked_of}
use Rattle.whole_case.proofs.CaseSteps.{spanned, ticketed}
use Rattle.whole_case.proofs.Judgements.{same_after, tested}
use Rattle.law_lemmas.proofs.Options.{ok_same}

sole_right : (b : Book) (lines : List TextLine) (q : Request) → sole_request b lines (Ok q) → judged (known_places b) q ≡ None
sole_right b [] q h = absurd h
sole_right b (line ∷ []) q (spelled, is, (u, right, e)) = subst (λ (x : Request). judged (known_places b) x ≡ None) (sym (ok_same q spelled e)) right
sole_right b (line ∷ more ∷ lines) q h = absurd h

ranged : (low high n : ℕ) → IsInRange low high n → within low high n ≡ true
ranged low high n h = and_from _ _ (le-leb _ _ h.0) (le-leb _ _ h.1)

-- the number of tickets is judged by itself
pub right_with : (places : List Place) (q : Request) (best : Option ℕ) → IfSome best (IsInRange 1 MOST_TICKETS) → judged places q ≡ None → judged places (with_best best q) ≡ None
right_with places q None h e = e
right_with places q (Some best) h e =
    let a = tested (within 1 MOST_SLICES (length q.slices)) Slices _ e in
    let b = tested (within 1 MOST_PASSENGERS q.party) Party _ a.1 in
    let c = tested (within 1 MOST_TICKETS q.best) Best _ b.1 in
    same_after _ Slices _ None a.0 (same_after _ Party _ None b.0 (same_after (within 1 MOST_TICKETS best) Best _ None (ranged 1 MOST_TICKETS best h) c.1))

asked_right : (kind : CaseKind) (at : Option ℕ) (bytes : List ℕ) (asked : AskedCase) → asked_case kind at bytes (Ok asked) → judged (known_places asked.book) asked.request ≡ None
asked_right kind at bytes asked (case, form, (opening, rows, (book, filed, (request, sole, e)))) =
    subst (λ (x : AskedCase). judged (known_places x.book) x.request ≡ None) (sym (ok_same asked (asked_of case book request) e)) (sole_right book case.requests request sole)

pub searched_right : (best at : Option ℕ) (bytes : List ℕ) (found : SearchCase) → IfSome best (IsInRange 1 MOST_TICKETS) → search_case best at bytes (Ok found) → judged (known_places found.book) found.request ≡ None
searched_right best at bytes found h (asked, a, (u, number, e)) =
    subst (λ (x : SearchCase). judged (known_places x.book) x.request ≡ None) (sym (ok_same found (record { book = asked.book; request = with_best best asked.request }) e))
    (right_with (known_places asked.book) asked.request best h (asked_right Search at bytes asked a))

pub checked_right : (best at : Option ℕ) (bytes : List ℕ) (found : CheckCase) → IfSome best (IsInRange 1 MOST_TICKETS) → check_case best at bytes (Ok found) → judged (known_places found.book) found.request ≡ None
checked_right best at bytes found h (asked, a, (certificate, read, (u, number, e))) =
    subst (λ (x : CheckCase). judged (known_places x.book) x.request ≡ None) (sym (ok_same found (record { book = asked.book; request = with_best best asked.request; certificate = certificate }) e))
    (right_with (known_places asked.book) asked.request best h (asked_right Check at bytes asked a))

pub calendar_right : (outs backs : ℕ) (at : Option ℕ) (bytes : List ℕ) (found : CalendarCase) → calendar_case outs backs at bytes (Ok found) → judged (known_places found.book) found.request ≡ None
calendar_right outs backs at bytes found (asked, a, (u, two, (v, spans, (w, number, e)))) =
    subst (λ (x : CalendarCase). judged (known_places x.book) x.request ≡ None) (sym (ok_same found (spanned asked) e)) (asked_right Search at bytes asked a)

pub verdict_right : (at : Option ℕ) (bytes : List ℕ) (found : VerdictCase) → verdict_case at bytes (Ok found) → judged (known_places found.book) found.request ≡ None
verdict_right at bytes found (asked, a, (ticket, read, (u, number, e))) =
    subst (λ (x : VerdictCase). judged (known_places x.book) x.request ≡ None) (sym (ok_same found (ticketed asked ticket) e)) (asked_right Verdict at bytes asked a)

-- ---- the days of a calendar
-- a test that doesn't refuse the case was met
met : (test : Bool) (refusal : Refusal) (u : Unit {0}) → ◌≡◌ {A = Result (Unit {0}) Refusal} (Ok u) (if test then Ok tt else Err refusal) → test ≡ true
met true refusal u e = refl
met false refusal u e = absurd (cc)

pub calendar_has_two : (outs backs : ℕ) (at : Option ℕ) (bytes : List ℕ) (found : CalendarCase) → calendar_case outs backs at bytes (Ok found) → length found.request.slices ≡ 2
calendar_has_two outs backs at bytes found (asked, a, (u, two, (v, spans, (w, number, e)))) =
    subst (λ (x : CalendarCase). length x.request.slices ≡ 2) (sym (ok_same found (spanned asked) e)) (eqb-true (length asked.request.slices) 2 (met _ _ u two))

pub calendar_spanned : (outs backs : ℕ) (at : Option ℕ) (bytes : List ℕ) (found : CalendarCase) → calendar_case outs backs at bytes (Ok found) → spans_fit outs backs found.request.slices ≡ true
calendar_spanned outs backs at bytes found (asked, a, (u, two, (v, spans, (w, number, e)))) =
    subst (λ (x : CalendarCase). spans_fit outs backs x.request.slices ≡ true) (sym (ok_same found (spanned asked) e)) (met _ _ v spans)
