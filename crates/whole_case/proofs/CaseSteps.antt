-- What follows what a case asks, by the kind of case.
use Rattle.std.proofs.Common.{ℕ, Option, List, length, Result, Ok, Err, inl, inr, refl, ap, ◌∙◌}
use Rattle.certificate.specs.declared.parts.Certificate.{Certificate}
use Rattle.fare_law.specs.declared.tickets.Ticket.{Ticket}
use Rattle.case_text.specs.declared.kinds.CaseKind.{CaseKind}
use Rattle.case_text.specs.declared.kinds.CaseKind.TheVariants.{Search}
use Rattle.whole_case.specs.declared.asked.AskedCase.{AskedCase}
use Rattle.whole_case.specs.declared.calendar.CalendarCase.{CalendarCase}
use Rattle.whole_case.specs.declared.check.CheckCase.{CheckCase}
use Rattle.whole_case.specs.declared.refusals.LoadFault.{LoadFault}
use Rattle.whole_case.specs.declared.refusals.LoadFault.TheVariants.{Refused, Mem}
use Rattle.whole_case.specs.declared.search.SearchCase.{SearchCase}
use Rattle.whole_case.specs.declared.verdict.VerdictCase.{VerdictCase}
use Rattle.whole_case.specs.Calendars.{has_spans, has_two}
use Rattle.whole_case.specs.Cases.{asked_case, calendar_case, has_days, in_version, search_case}
use Rattle.whole_case.specs.Certificates.{certificate_in}
use Rattle.whole_case.specs.Filings.{has_version}
use Rattle.whole_case.specs.Requests.{with_best}
use Rattle.whole_case.specs.Stages.{Reads, Stage, done, ◌>>=◌}
use Rattle.whole_case.specs.Tickets.{ticket_in}
use Rattle.whole_case.proofs.StageLemmas.{goes_on, stops}
use Rattle.law_lemmas.proofs.Options.{ok_same}

-- ---- a search, and a check
abbrev pub searched : Option ℕ → AskedCase → SearchCase
searched best asked = record { book = asked.book; request = with_best best asked.request }

abbrev pub checked : Option ℕ → AskedCase → Certificate → CheckCase
checked best asked certificate = record { book = asked.book; request = with_best best asked.request; certificate = certificate }

-- the version, the last stage of each kind of case
abbrev pub at_version : {A : Type 0} → Option ℕ → AskedCase → A → Stage A
at_version at asked a = has_version at (length asked.filings) >>= (λ u. done a)

abbrev pub after_certificate : Option ℕ → Option ℕ → AskedCase → Certificate → Stage CheckCase
after_certificate best at asked certificate = at_version at asked (checked best asked certificate)

abbrev pub to_check : Option ℕ → Option ℕ → AskedCase → Stage CheckCase
to_check best at asked = certificate_in asked.certificate asked.end >>= after_certificate best at asked

-- ---- a calendar
abbrev pub spanned : AskedCase → CalendarCase
spanned asked = record { book = asked.book; request = asked.request }

abbrev pub after_two : ℕ → ℕ → Option ℕ → AskedCase → Stage CalendarCase
after_two outs backs at asked = has_spans outs backs asked.line asked.request >>= (λ u. at_version at asked (spanned asked))

abbrev pub to_calendar : ℕ → ℕ → Option ℕ → AskedCase → Stage CalendarCase
to_calendar outs backs at asked = has_two asked.line asked.request >>= (λ u. after_two outs backs at asked)

-- ---- a verdict
abbrev pub ticketed : AskedCase → Ticket → VerdictCase
ticketed asked ticket = record { book = asked.book; request = asked.request; ticket = ticket }

abbrev pub after_ticket : Option ℕ → AskedCase → Ticket → Stage VerdictCase
after_ticket at asked ticket = at_version at asked (ticketed asked ticket)

abbrev pub to_verdict : Option ℕ → AskedCase → Stage VerdictCase
to_verdict at asked = ticket_in asked.book asked.ticket >>= after_ticket at asked

-- ---- what is read of a case that has the version
module _ {A : Type 0} (at : Option ℕ) (asked : AskedCase) (stage : Stage A) where
  pub stage_stops : (fault : LoadFault) → Reads {A = A} (Err fault) stage → Reads {A = A} (Err fault) (in_version at asked stage)
  stage_stops fault h = stops stage (at_version at asked) fault h

  pub number_stops : (a : A) → stage (Ok a) → (fault : LoadFault) → Reads {A = Unit {0}} (Err fault) (has_version at (length asked.filings)) → Reads {A = A} (Err fault) (in_version at asked stage)
  number_stops a is fault h = goes_on stage (at_version at asked) a (Err fault) is (stops (has_version at (length asked.filings)) (λ u. done a) fault h)

  pub in_it : (a : A) → stage (Ok a) → has_version at (length asked.filings) (Ok tt) → in_version at asked stage (Ok a)
  in_it a is h = (a, is, (tt, h, refl))

  pub kept : {B : Type 0} (f : A → B) (r : Result B LoadFault) → Reads r (in_version at asked stage >>= (λ a. done (f a))) → Reads r (stage >>= (λ a. at_version at asked (f a)))
  kept f (Ok b) (a, (x, p, (u, v, e)), same) = (x, p, (u, v, same ∙ ap (λ y. Ok (f y)) (ok_same a x e)))
  kept f (Err (Refused refusal)) (inl (inl p)) = inl p
  kept f (Err (Refused refusal)) (inl (inr (x, p, inl v))) = inr (x, p, inl v)
  kept f (Err (Refused refusal)) (inl (inr (x, p, inr (u, v, e)))) = absurd (cc)
  kept f (Err (Refused refusal)) (inr (a, p, e)) = absurd (cc)
  kept f (Err Mem) p = tt

-- a case of which one stage reads more
module _ {A B : Type 0} (kind : CaseKind) (at : Option ℕ) (bytes : List ℕ) (stage : AskedCase → Stage A) (f : AskedCase → A → B) where
  abbrev pub with_more : AskedCase → Stage B
  with_more asked = stage asked >>= (λ a. at_version at asked (f asked a))

  pub asks_stop : (fault : LoadFault) → Reads {A = AskedCase} (Err fault) (asked_case kind at bytes) → Reads {A = B} (Err fault) (asked_case kind at bytes >>= with_more)
  asks_stop fault h = stops (asked_case kind at bytes) with_more fault h

  module _ (asked : AskedCase) (is : asked_case kind at bytes (Ok asked)) where
    on_asked : (r : Result B LoadFault) → Reads r (in_version at asked (stage asked) >>= (λ a. done (f asked a))) → Reads r (asked_case kind at bytes >>= with_more)
    on_asked r h = goes_on (asked_case kind at bytes) with_more asked r is (kept at asked (stage asked) (f asked) r h)

    pub more_stops : (fault : LoadFault) → Reads {A = A} (Err fault) (in_version at asked (stage asked)) → Reads {A = B} (Err fault) (asked_case kind at bytes >>= with_more)
    more_stops fault h = on_asked (Err fault) (stops (in_version at asked (stage asked)) (λ a. done (f asked a)) fault h)

    pub more_given : (a : A) → in_version at asked (stage asked) (Ok a) → (asked_case kind at bytes >>= with_more) (Ok (f asked a))
    more_given a h = on_asked (Ok (f asked a)) (a, h, refl)

-- ---- a search
module _ (best at : Option ℕ) (bytes : List ℕ) where
  abbrev to_search : AskedCase → Stage SearchCase
  to_search asked = at_version at asked (searched best asked)

  pub search_stops : (fault : LoadFault) → Reads {A = AskedCase} (Err fault) (asked_case Search at bytes) → Reads {A = SearchCase} (Err fault) (search_case best at bytes)
  search_stops fault h = stops (asked_case Search at bytes) to_search fault h

  module _ (asked : AskedCase) (is : asked_case Search at bytes (Ok asked)) where
    pub search_number_stops : (fault : LoadFault) → Reads {A = Unit {0}} (Err fault) (has_version at (length asked.filings)) → Reads {A = SearchCase} (Err fault) (search_case best at bytes)
    search_number_stops fault h = goes_on (asked_case Search at bytes) to_search asked (Err fault) is (stops (has_version at (length asked.filings)) (λ u. done (searched best asked)) fault h)

    pub search_given : has_version at (length asked.filings) (Ok tt) → search_case best at bytes (Ok (searched best asked))
    search_given h = (asked, is, (tt, h, refl))

-- ---- the days of a calendar
module _ (outs backs : ℕ) (at : Option ℕ) (asked : AskedCase) where
  abbrev with_two : Unit {0} → Stage (Unit {0})
  with_two u = has_spans outs backs asked.line asked.request >>= (λ v. has_version at (length asked.filings))

  pub two_stops : (fault : LoadFault) → Reads {A = Unit {0}} (Err fault) (has_two asked.line asked.request) → Reads {A = Unit {0}} (Err fault) (has_days outs backs at asked)
  two_stops fault h = stops (has_two asked.line asked.request) with_two fault h

  pub spans_stop : has_two asked.line asked.request (Ok tt) → (fault : LoadFault) → Reads {A = Unit {0}} (Err fault) (has_spans outs backs asked.line asked.request) → Reads {A = Unit {0}} (Err fault) (has_days outs backs at asked)
  spans_stop two fault h =
      goes_on (has_two asked.line asked.request) with_two tt (Err fault) two (stops (has_spans outs backs asked.line asked.request) (λ v. has_version at (length asked.filings)) fault h)

  pub days_end : has_two asked.line asked.request (Ok tt) → has_spans outs backs asked.line asked.request (Ok tt) → (r : Result (Unit {0}) LoadFault) → Reads r (has_version at (length asked.filings)) → Reads r (has_days outs backs at asked)
  days_end two spans r h =
      goes_on (has_two asked.line asked.request) with_two tt r two (goes_on (has_spans outs backs asked.line asked.request) (λ v. has_version at (length asked.filings)) tt r spans h)

  days_parted : (r : Result CalendarCase LoadFault) → Reads r (has_days outs backs at asked >>= (λ u. done (spanned asked))) → Reads r (to_calendar outs backs at asked)
  days_parted (Ok case) (w, (u, p, (v, q, s)), e) = (u, p, (v, q, (w, s, e)))
  days_parted (Err (Refused refusal)) (inl (inl p)) = inl p
  days_parted (Err (Refused refusal)) (inl (inr (u, p, inl q))) = inr (u, p, inl q)
  days_parted (Err (Refused refusal)) (inl (inr (u, p, inr (v, q, s)))) = inr (u, p, inr (v, q, inl s))
  days_parted (Err (Refused refusal)) (inr (w, p, e)) = absurd (cc)
  days_parted (Err Mem) p = tt

module _ (outs backs : ℕ) (at : Option ℕ) (bytes : List ℕ) (asked : AskedCase) (is : asked_case Search at bytes (Ok asked)) where
  pub days_stop : (fault : LoadFault) → Reads {A = Unit {0}} (Err fault) (has_days outs backs at asked) → Reads {A = CalendarCase} (Err fault) (calendar_case outs backs at bytes)
  days_stop fault h =
      goes_on (asked_case Search at bytes) (to_calendar outs backs at) asked (Err fault) is
      (days_parted outs backs at asked (Err fault) (stops (has_days outs backs at asked) (λ u. done (spanned asked)) fault h))

  pub days_given : has_days outs backs at asked (Ok tt) → calendar_case outs backs at bytes (Ok (spanned asked))
  days_given h =
      goes_on (asked_case Search at bytes) (to_calendar outs backs at) asked (Ok (spanned asked)) is (days_parted outs backs at asked (Ok (spanned asked)) (tt, h, refl))
