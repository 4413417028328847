-- What a calendar makes of its bytes, from what its parts give.
use Rattle.std.proofs.Common.{◌≡◌, ◌++◌, ℕ, List, [], ◌∷◌, Option, None, Some, Result, Ok, IfOk, Bool, true, false, codes, decimal, length, refl, sym, ap, ◌∙◌, append_assoc}
use Rattle.answer_text.specs.Lines.{Adds}
use Rattle.fare_calendar.specs.CalendarText.{CalendarText}
use Rattle.fare_calendar.specs.Calendars.{HasCause, IsCalendar, spans_fit}
use Rattle.fare_calendar.specs.declared.cell.Cell.{Cell}
use Rattle.fare_calendar.specs.declared.fault.CalendarFault.{CalendarFault}
use Rattle.fare_calendar.specs.declared.fault.CalendarFault.TheVariants.{BadRequest, NotTwo, Span, Mem as NoMemory}
use Rattle.fare_calendar.specs.declared.spans.Spans.{Spans}
use Rattle.fare_law.specs.Book.{Book}
use Rattle.fare_law.specs.Requests.{judged, known_places}
use Rattle.fare_law.specs.declared.mem.Mem.{Mem}
use Rattle.fare_law.specs.declared.requests.Request.{Request}
use Rattle.fare_law.specs.declared.requests.Slice.{Slice}
use Rattle.fare_law.specs.declared.requests.Why.{Why}
use Rattle.program_words.specs.declared.commands.Command.TheVariants.{Calendar}
use Rattle.whole_case.specs.Calendars as Cases
use Rattle.whole_case.specs.Cases.{calendar_case}
use Rattle.whole_case.specs.declared.calendar.CalendarCase.{CalendarCase}
use Rattle.lowfare.specs.Calendars.{TellsCells}
use Rattle.lowfare.specs.Makes.{Makes}
use Rattle.lowfare.specs.declared.outcomes.Outcome.{Outcome}
use Rattle.lowfare.specs.declared.status.Status.TheVariants.{Done}
use Rattle.lowfare.proofs.Ending.{ends_with}

-- the days of a calendar fit where its case says that they do
same_spans : (outs backs : ℕ) (slices : List Slice) → spans_fit (record { outs = outs; backs = backs }) slices ≡ Cases.spans_fit outs backs slices
same_spans outs backs [] = refl
same_spans outs backs (out ∷ []) = refl
same_spans outs backs (out ∷ back ∷ []) = refl
same_spans outs backs (out ∷ back ∷ other ∷ more) = refl

-- the request of a calendar's case has a calendar, unless memory ran out
pub no_cause : (b : Book) (q : Request) (spans : Spans) (fault : CalendarFault) → judged (known_places b) q ≡ None → length q.slices ≡ 2 → Cases.spans_fit spans.outs spans.backs q.slices ≡ true → HasCause b q spans fault → fault ≡ NoMemory
no_cause b q spans (BadRequest why) right two fit cause = absurd (apart (sym right ∙ cause))
  where
    apart : ◌≡◌ {A = Option Why} None (Some why) → ⊥
    apart e = cc
no_cause b q spans NotTwo right two fit cause = absurd (cause.1 two)
no_cause b q spans Span right two fit cause = absurd (apart (sym cause.2 ∙ same_spans spans.outs spans.backs q.slices ∙ fit))
  where
    apart : ◌≡◌ {A = Bool} false true → ⊥
    apart e = cc
no_cause b q spans NoMemory right two fit cause = refl

-- the version's line, and the calendar behind it
pub tells_cells : (spans : Spans) (budget number : ℕ) (found : CalendarCase) (cells : List Cell) (head text : List ℕ) → IsCalendar found.book found.request spans budget cells → number ≡ length found.book.entries
    → head ≡ codes "version " ++ (decimal number ++ codes "\n") → Adds (CalendarText spans cells) head text → TellsCells spans budget found text
tells_cells spans budget number found cells head text are is h adds = record {
  cells = cells;
  are = are;
  calendar = adds.added;
  tells = adds.is;
  whole =
      adds.whole ∙ ap (λ x. x ++ adds.added) h ∙ append_assoc (codes "version ") (decimal number ++ codes "\n") adds.added ∙ ap (λ x. codes "version " ++ x) (append_assoc (decimal number) (codes "\n") adds.added)
      ∙ ap (λ n. codes "version " ++ (decimal n ++ (codes "\n" ++ adds.added))) is;
}

pub told_made : (spans : Spans) (budget : ℕ) (at : Option ℕ) (bytes : List ℕ) (r : Result Outcome Mem) (found : CalendarCase) → calendar_case spans.outs spans.backs at bytes (Ok found) → IfOk r (λ o. o.status ≡ Done) → IfOk r (λ o. TellsCells spans budget found o.text)
    → IfOk r (λ o. Makes (Calendar spans.outs spans.backs budget at) bytes o.status o.text)
told_made spans budget at bytes r found spelled is text =
    ends_with r Done (TellsCells spans budget found) (Makes (Calendar spans.outs spans.backs budget at) bytes) (λ t tells. record { case = record { found = found; spelled = spelled }; tells = tells }) is text
