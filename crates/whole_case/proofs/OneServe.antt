-- A serving run's case comes to one thing at most, since each of its stages does, and what it asks is right.
use Rattle.std.proofs.Common.{◌≡◌, ℕ, List, [], ◌∷◌, length, Option, None, IfSome, Ok, Err, sym, ap, subst, ◌∙◌, arith}
use Rattle.std.specs.Int.{IsInRange}
use Rattle.case_text.specs.Entries.{case_of}
use Rattle.case_text.specs.declared.kinds.CaseKind.TheVariants.{Serve}
use Rattle.fare_filing.specs.Reading.{filing_of}
use Rattle.fare_law.specs.Book.{Book}
use Rattle.fare_law.specs.Lists.{Each}
use Rattle.fare_law.specs.Requests.{judged, known_places}
use Rattle.fare_law.specs.declared.requests.Request.{Request}
use Rattle.fare_law.specs.declared.rows.TextLine.{TextLine}
use Rattle.fare_law.specs.declared.limits.TheConstants.{MOST_TICKETS}
use Rattle.script_text.specs.Laws.{OneFault, OneScript, ScriptOrFault}
use Rattle.whole_case.specs.declared.refusals.Reason.TheVariants.{Script as BadScript}
use Rattle.whole_case.specs.declared.serve.ServeCase.{ServeCase}
use Rattle.whole_case.specs.Filings.{filed_version, filing_in}
use Rattle.whole_case.specs.Refusals.{at_line, filing_reason, of_form, refused_at}
use Rattle.whole_case.specs.Requests.{request_in, with_best}
use Rattle.whole_case.specs.ServeCases.{asked_in, each_of, script_in, serve_case}
use Rattle.whole_case.specs.Stages.{IsOne, Stage, done, ◌>>=◌}
use Rattle.whole_case.specs.Timetables.{opening_of, sections_in}
use Rattle.whole_case.proofs.EachLine.{each_such}
use Rattle.whole_case.proofs.OneOutcome.{Known, one_done, one_opening, one_request, one_then, one_told, one_version}
use Rattle.whole_case.proofs.RightRequests.{right_with}
use Rattle.whole_case.proofs.ServeSteps.{after_asks, after_filed, after_later, after_form, after_opened, serving}
use Rattle.law_lemmas.proofs.Options.{ok_same}

one_each : {X A : Type 0} (stage : X → Stage A) → ((x : X) → IsOne (stage x)) → (xs : List X) → IsOne (each_of stage xs)
one_each stage one [] = one_done []
one_each {X} {A} stage one (x ∷ xs) =
    one_then (stage x) (λ (first : A). each_of stage xs >>= (λ others. done (first ∷ others))) (one x)
    (λ first. one_then (each_of stage xs) (λ (others : List A). done (first ∷ others)) (one_each stage one xs) (λ others. one_done (first ∷ others)))

one_asked : (best : Option ℕ) (b : Book) (line : TextLine) → IsOne (asked_in best b line)
one_asked best b line = one_then (request_in b line) (λ request. done (with_best best request)) (one_request b line) (λ request. one_done (with_best best request))

-- ---- the script
module _ (one : OneScript) (either : ScriptOrFault) (fault : OneFault) where
  one_script_in : (later requests : ℕ) (lines : List TextLine) → IsOne (script_in later requests lines)
  one_script_in later requests lines (Ok s) (Ok t) (l, r, p) (m, q, o) = ap Ok (one later requests lines s t (omega (arith, l)) (omega (arith, r)) p o)
  one_script_in later requests lines (Ok s) (Err refusal) (l, r, p) (line, f, e) = absurd (either later requests lines s line p f)
  one_script_in later requests lines (Err refusal) (Ok s) (line, f, e) (l, r, p) = absurd (either later requests lines s line p f)
  one_script_in later requests lines (Err refusal) (Err other) (line, f, e) (number, g, h) = ap Err (e ∙ ap (λ n. refused_at n BadScript) (fault later requests lines line number f g) ∙ sym h)

  -- ---- the whole
  pub one_serve : Known → (best : Option ℕ) (bytes : List ℕ) → IsOne (serve_case best bytes)
  one_serve k best bytes =
      one_then (sections_in Serve bytes) (after_form best) (one_told (case_of Serve bytes) of_form) (λ case.
      one_then (opening_of case.places case.flights case.seats) (after_opened best case) (one_opening k case.places case.flights case.seats) (λ opening.
      one_then (filed_version opening case.filings None) (after_filed best case) (one_version k opening case.filings None) (λ book.
      one_then (each_of filing_in case.later) (after_later best case book) (one_each filing_in (λ line. one_told (filing_of line.bytes) (λ fault. at_line line.line (filing_reason fault))) case.later) (λ later.
      one_then (each_of (asked_in best book) case.requests) (after_asks case book later) (one_each (asked_in best book) (one_asked best book) case.requests) (λ requests.
      one_then (script_in (length later) (length requests) case.script) (λ script. done (serving book later requests script)) (one_script_in (length later) (length requests) case.script) (λ script.
      one_done (serving book later requests script)))))))

-- ---- what is asked
ask_right : (best : Option ℕ) → IfSome best (IsInRange 1 MOST_TICKETS) → (b : Book) (line : TextLine) (q : Request) → asked_in best b line (Ok q) → judged (known_places b) q ≡ None
ask_right best h b line q (request, (spelled, is, (u, right, e)), same) =
    let asked : judged (known_places b) request ≡ None = subst (λ (x : Request). judged (known_places b) x ≡ None) (sym (ok_same request spelled e)) right in
    subst (λ (x : Request). judged (known_places b) x ≡ None) (sym (ok_same q (with_best best request) same)) (right_with (known_places b) request best h asked)

pub asks_right : (best : Option ℕ) (bytes : List ℕ) (found : ServeCase) → IfSome best (IsInRange 1 MOST_TICKETS) → serve_case best bytes (Ok found) → Each (λ q. judged (known_places found.book) q ≡ None) found.requests
asks_right best bytes found h (case, form, (opening, rows, (book, filings, (later, read, (requests, asked, (script, spelled, e)))))) =
    subst (λ (x : ServeCase). Each (λ q. judged (known_places x.book) q ≡ None) x.requests) (sym (ok_same found (serving book later requests script) e))
    (each_such (asked_in best book) (λ q. judged (known_places book) q ≡ None) (ask_right best h book) case.requests requests asked)
