-- A made case is never refused: each stage in which it is read gives something.
use Rattle.std.proofs.Common.{◌≡◌, ◌⊎◌, ◌≤◌, ◌∙◌, ℕ, [], ◌∷◌, None, Ok, Err, sym, ap, subst, inl, inr, arith}
use Rattle.case_maker.specs.MadeCase.{made_case}
use Rattle.case_text.specs.declared.contents.Case.{Case}
use Rattle.fare_law.specs.declared.filings.Filing.{Filing}
use Rattle.fare_law.specs.declared.requests.Request.{Request}
use Rattle.fare_law.specs.Book.{Book, Timetable}
use Rattle.fare_law.specs.Requests.{judged, known_places}
use Rattle.law_lemmas.proofs.Options.{none_some, ok_or_fault, ok_same}
use Rattle.name_text.specs.Again.{NamesReadAgain}
use Rattle.whole_case.specs.declared.asked.AskedCase.{AskedCase}
use Rattle.whole_case.specs.declared.refusals.Refusal.{Refusal}
use Rattle.whole_case.specs.Cases.{search_case}
use Rattle.whole_case.specs.Filings.{filed, filed_version, next, taken}
use Rattle.whole_case.specs.Requests.{sole_line, sole_request}
use Rattle.whole_case.specs.Stages.{done, ◌>>=◌}
use Rattle.whole_case.specs.Timetables.{opening_of, timetable_of}
use Rattle.fare_filing.specs.Reading.{filing_of}
use Rattle.request_text.specs.Reading.{request_of}
use Rattle.fare_law.specs.Faults.{Fault}
use Rattle.fare_law.specs.Lists.{Matched}
use Rattle.case_maker.specs.Lines.{place_names}
use Rattle.case_maker.specs.Made.{HasSections}
use Rattle.case_maker.specs.Sections.{IsPlaceOf}
use Rattle.case_maker.proofs.FilingRead.{all_actions, filing_read}
use Rattle.case_maker.proofs.FilingTaken.{filing_right}
use Rattle.case_maker.proofs.MadeRead.{made_is_spelled}
use Rattle.case_maker.proofs.RequestRead.{made_request, request_read}
use Rattle.case_maker.proofs.RequestTaken.{request_right}
use Rattle.case_maker.proofs.TablesRight.{seats_right, tables_right}

-- what a case asks
abbrev asked_of : Case → Book → Request → AskedCase
asked_of case book request = record { book = book; request = request; line = sole_line case.requests; filings = case.filings; ticket = case.ticket; certificate = case.certificate; end = case.end }

-- nothing is given and refused at once
gives : {A : Type 0} (a : A) (refusal : Refusal) → done a (Err refusal) → ⊥
gives a refusal e = cc

module _ (names : NamesReadAgain) (size : ℕ) (small : size ≤ 100) (case : Case) (has : HasSections size case) where
  -- ---- the tables

  no_table_fault : (refusal : Refusal) → timetable_of case.places case.flights case.seats (Err refusal) → ⊥
  no_table_fault refusal (inl (fault, is, e)) = tables_right size case.places case.flights small has.places has.flights fault is
  no_table_fault refusal (inr (flights, right, inl (line, repeats, e))) = seats_right size case.seats line small has.seats repeats
  no_table_fault refusal (inr (flights, right, inr (u, apart, e))) = gives _ refusal e

  no_opening_fault : (refusal : Refusal) → opening_of case.places case.flights case.seats (Err refusal) → ⊥
  no_opening_fault refusal (inl h) = no_table_fault refusal h
  no_opening_fault refusal (inr (timetable, given, e)) = gives _ refusal e

  -- a book of the places, without filings
  record IsOpening (opening : Book) : Type 0 where
    timetable : Timetable
    places : timetable.places ≡ case.places
    opening_is : opening ≡ record { timetable = timetable; entries = [] }

  opened : (opening : Book) → opening_of case.places case.flights case.seats (Ok opening) → IsOpening opening
  opened opening (timetable, (flights, right, (u, apart, e)), d) = record { timetable = timetable; places = ap (λ (t : Timetable). t.places) (ok_same timetable _ e); opening_is = ok_same opening _ d }

  -- ---- the filing

  abbrev opening_of_tables : Timetable → Book
  opening_of_tables timetable = record { timetable = timetable; entries = [] }

  abbrev made_filing : Filing
  made_filing = record { actions = all_actions has.filing_is.has.fares }

  filing_given : filing_of has.filing.bytes ≡ Ok made_filing
  filing_given = filing_read names size has.filing.bytes small has.filing_is

  no_next_fault : (timetable : Timetable) (refusal : Refusal) → next (opening_of_tables timetable) has.filing (Err refusal) → ⊥
  no_next_fault timetable refusal (inl (fault, e, r)) = ok_or_fault made_filing fault (sym filing_given ∙ e)
  no_next_fault timetable refusal (inr (filing, e, (at, why, fault, r))) =
      filing_right timetable has.filing_is.has.fares (omega (arith, has.filing_is.has.few, small)) has.filing_is.has.each at why
      (subst (λ f. Fault (opening_of_tables timetable) f at why) (ok_same filing made_filing (sym e ∙ filing_given)) fault)

  no_filed_fault : (timetable : Timetable) (refusal : Refusal) → filed_version (opening_of_tables timetable) (has.filing ∷ []) None (Err refusal) → ⊥
  no_filed_fault timetable refusal (inl (inl h)) = no_next_fault timetable refusal h
  no_filed_fault timetable refusal (inl (inr (more, given, e))) = gives _ refusal e
  no_filed_fault timetable refusal (inr (last, given, e)) = gives _ refusal e

  -- the book that is left has the same timetable
  same_timetable : (timetable : Timetable) (book : Book) → filed_version (opening_of_tables timetable) (has.filing ∷ []) None (Ok book) → book.timetable ≡ timetable
  same_timetable timetable book (last, (more, (filing, e, (none, taken)), left), d) =
      ap (λ (b : Book). b.timetable) (ok_same book _ d) ∙ ap (λ (b : Book). b.timetable) (ok_same last more left) ∙ ap (λ (b : Book). b.timetable) taken

  -- ---- the request

  no_request_fault : (book : Book) (refusal : Refusal) → book.timetable.places ≡ case.places → sole_request book (has.request ∷ []) (Err refusal) → ⊥
  no_request_fault book refusal e (inl (fault, told, r)) = ok_or_fault made_request fault (sym asked ∙ told)
    where
      asked : request_of has.request.bytes ≡ Ok made_request
      asked = ap request_of has.request_is ∙ request_read
  no_request_fault book refusal e (inr (request, told, inl (why, refused, r))) =
      none_some why (sym right ∙ refused)
    where
      asked : request_of has.request.bytes ≡ Ok made_request
      asked = ap request_of has.request_is ∙ request_read

      right : judged (known_places book) request ≡ None
      right = subst (λ q. judged (known_places book) q ≡ None) (ok_same made_request request (sym asked ∙ told)) (request_right size book (subst (Matched IsPlaceOf (place_names size)) (sym e) has.places))
  no_request_fault book refusal e (inr (request, told, inr (u, allowed, d))) = gives _ refusal d

  -- ---- the whole case

  no_fault : (refusal : Refusal) (opening : Book) → IsOpening opening
      → (filed_version opening (has.filing ∷ []) None (Err refusal) ⊎ ((book : Book) × filed_version opening (has.filing ∷ []) None (Ok book) × (sole_request book (has.request ∷ []) (Err refusal)))) → ⊥
  no_fault refusal opening o (inl h) = no_filed_fault o.timetable refusal (subst (λ b. filed_version b (has.filing ∷ []) None (Err refusal)) o.opening_is h)
  no_fault refusal opening o (inr (book, given, h)) =
      no_request_fault book refusal (ap (λ (t : Timetable). t.places) (same_timetable o.timetable book (subst (λ b. filed_version b (has.filing ∷ []) None (Ok book)) o.opening_is given)) ∙ o.places) h

-- a made case is never refused
pub never_refused : NamesReadAgain → (seed size : ℕ) → size ≤ 100 → (refusal : Refusal) → search_case None None (made_case seed size) (Err refusal) → ⊥
never_refused names seed size small refusal (inr (asked, given, inl e)) = absurd (cc)
never_refused names seed size small refusal (inr (asked, given, inr (u, number, e))) = gives _ refusal e
never_refused names seed size small refusal (inl (inl (fault, e, r))) = ok_or_fault (made_is_spelled seed size small).case fault (sym (made_is_spelled seed size small).spelled ∙ e)
never_refused names seed size small refusal (inl (inr (case, spelled, h))) =
    let made = made_is_spelled seed size small in
    staged (subst (HasSections size) (ok_same made.case case (sym made.spelled ∙ spelled)) made.has) h
  where
    staged : (has : HasSections size case) → (opening_of case.places case.flights case.seats >>= (λ opening. filed_version opening case.filings None >>= (λ book. sole_request book case.requests >>= (λ request. done (asked_of case book request))))) (Err refusal) → ⊥
    staged has (inl h) = no_opening_fault names size small case has refusal h
    staged has (inr (opening, given, inl h)) = no_fault names size small case has refusal opening (opened names size small case has opening given) (inl (subst (λ ls. filed_version opening ls None (Err refusal)) has.filings h))
    staged has (inr (opening, given, inr (book, filed, inl h))) =
        no_fault names size small case has refusal opening (opened names size small case has opening given)
        (inr (book, subst (λ ls. filed_version opening ls None (Ok book)) has.filings filed, subst (λ ls. sole_request book ls (Err refusal)) has.requests h))
    staged has (inr (opening, given, inr (book, filed, inr (request, asked, e)))) = gives _ refusal e
