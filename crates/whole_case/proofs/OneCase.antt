-- Cases of each kind come to one thing at most, since what they ask does.
use Rattle.std.proofs.Common.{◌≡◌, ◌≢◌, ℕ, List, length, Option, Some, Ok, Err, sym, ap, ◌∙◌}
use Rattle.case_text.specs.declared.kinds.CaseKind.{CaseKind}
use Rattle.case_text.specs.declared.kinds.CaseKind.TheVariants.{Search, Check, Verdict}
use Rattle.certificate_text.specs.declared.faults.CertFault.{CertFault}
use Rattle.certificate_text.specs.declared.faults.CertFault.TheVariants.{Mem}
use Rattle.certificate_text.specs.Readings.{NoFault, OneCertificate, OneFault}
use Rattle.certificate_text.specs.Unread.{Numbered}
use Rattle.fare_law.specs.declared.requests.Request.{Request}
use Rattle.fare_law.specs.declared.rows.TextLine.{TextLine}
use Rattle.fare_law.specs.Book.{Book}
use Rattle.fare_verdict.specs.Tickets.{ticket_of_lines}
use Rattle.whole_case.specs.declared.asked.AskedCase.{AskedCase}
use Rattle.whole_case.specs.declared.refusals.Refusal.{Refusal}
use Rattle.whole_case.specs.Calendars.{has_spans, has_two}
use Rattle.whole_case.specs.Cases.{asked_case, calendar_case, check_case, search_case, verdict_case}
use Rattle.whole_case.specs.Certificates.{certificate_in}
use Rattle.whole_case.specs.Filings.{has_version}
use Rattle.whole_case.specs.Refusals.{of_certificate, of_ticket}
use Rattle.whole_case.specs.Stages.{IsOne, done}
use Rattle.whole_case.specs.Tickets.{ticket_in}
use Rattle.whole_case.proofs.CaseSteps.{after_certificate, after_ticket, after_two, at_version, checked, searched, spanned, ticketed, to_calendar, to_check, to_verdict}
use Rattle.whole_case.proofs.OneOutcome.{one_done, one_number, one_then, one_told}
use Rattle.law_lemmas.proofs.Options.{none_some, some_same}

one_after : {A : Type 0} (at : Option ℕ) (asked : AskedCase) (a : A) → IsOne (at_version at asked a)
one_after at asked a = one_then (has_version at (length asked.filings)) (λ u. done a) (one_number at (length asked.filings)) (λ u. one_done a)

-- ---- the certificate
-- want of memory refuses no case
refusal_apart : (fault : CertFault) (refusal : Refusal) → of_certificate fault ≡ Some refusal → fault ≢ Mem
refusal_apart fault refusal e m = none_some refusal (sym (ap of_certificate m) ∙ e)

module _ (one : OneCertificate) (none : NoFault) (fault : OneFault) where
  one_certificate : (lines : List TextLine) (end : ℕ) → IsOne (certificate_in lines end)
  one_certificate lines end (Ok c) (Ok d) (ic, lc) (id, ld) = ap Ok (one (Numbered lines end) c d ic id lc ld)
  one_certificate lines end (Ok c) (Err refusal) (ic, lc) (f, from, e) = absurd (refusal_apart f refusal e (none (Numbered lines end) c f ic lc from))
  one_certificate lines end (Err refusal) (Ok c) (f, from, e) (ic, lc) = absurd (refusal_apart f refusal e (none (Numbered lines end) c f ic lc from))
  one_certificate lines end (Err first) (Err other) (f, p, e) (g, q, h) =
      let same = fault (Numbered lines end) f g (refusal_apart f first e) (refusal_apart g other h) p q in
      ap Err (some_same first other (sym e ∙ ap of_certificate same ∙ h))

-- ---- what a calendar asks, and the ticket
one_two : (line : ℕ) (request : Request) → IsOne (has_two line request)
one_two line request x y p q = p ∙ sym q

one_spans : (outs backs line : ℕ) (request : Request) → IsOne (has_spans outs backs line request)
one_spans outs backs line request x y p q = p ∙ sym q

one_ticket : (b : Book) (lines : List TextLine) → IsOne (ticket_in b lines)
one_ticket b lines = one_told (ticket_of_lines b lines) of_ticket

module _ (asks : (kind : CaseKind) (at : Option ℕ) (bytes : List ℕ) → IsOne (asked_case kind at bytes)) where
  pub one_search : (best at : Option ℕ) (bytes : List ℕ) → IsOne (search_case best at bytes)
  one_search best at bytes =
      one_then (asked_case Search at bytes) (λ asked. at_version at asked (searched best asked)) (asks Search at bytes) (λ asked. one_after at asked (searched best asked))

  pub one_check : OneCertificate → NoFault → OneFault → (best at : Option ℕ) (bytes : List ℕ) → IsOne (check_case best at bytes)
  one_check one none fault best at bytes =
      one_then (asked_case Check at bytes) (to_check best at) (asks Check at bytes) (λ asked.
      one_then (certificate_in asked.certificate asked.end) (after_certificate best at asked) (one_certificate one none fault asked.certificate asked.end) (λ c.
      one_after at asked (checked best asked c)))

  pub one_calendar : (outs backs : ℕ) (at : Option ℕ) (bytes : List ℕ) → IsOne (calendar_case outs backs at bytes)
  one_calendar outs backs at bytes =
      one_then (asked_case Search at bytes) (to_calendar outs backs at) (asks Search at bytes) (λ asked.
      one_then (has_two asked.line asked.request) (λ u. after_two outs backs at asked) (one_two asked.line asked.request) (λ u.
      one_then (has_spans outs backs asked.line asked.request) (λ v. at_version at asked (spanned asked)) (one_spans outs backs asked.line asked.request) (λ v.
      one_after at asked (spanned asked))))

  pub one_verdict : (at : Option ℕ) (bytes : List ℕ) → IsOne (verdict_case at bytes)
  one_verdict at bytes =
      one_then (asked_case Verdict at bytes) (to_verdict at) (asks Verdict at bytes) (λ asked.
      one_then (ticket_in asked.book asked.ticket) (after_ticket at asked) (one_ticket asked.book asked.ticket) (λ ticket.
      one_after at asked (ticketed asked ticket)))
