-- What a calendar of a book replies, from what its parts give.
use Rattle.std.proofs.Common.{◌≡◌, ◌==◌, ℕ, List, [], ◌∷◌, Option, None, Some, Result, Ok, Err, Bool, true, false, IfOk, if◌then◌else◌, length, ap, refl, sym, subst, ◌∙◌, inl, inr}
use Rattle.std.proofs.lemmas.Bool.{ne_eqb}
use Rattle.std.proofs.lemmas.Option.{none-some}
use Rattle.fare_calendar.specs.Calendars.{HasCause, IsSpanned, spans_fit}
use Rattle.fare_calendar.specs.declared.fault.CalendarFault.{CalendarFault}
use Rattle.fare_calendar.specs.declared.fault.CalendarFault.TheVariants.{BadRequest, NotTwo, Span, Mem as NoMemory}
use Rattle.fare_calendar.specs.declared.spans.Spans.{Spans}
use Rattle.fare_law.specs.Book.{Book}
use Rattle.fare_law.specs.Requests.{judged, known_places}
use Rattle.fare_law.specs.declared.mem.Mem.{Mem}
use Rattle.fare_law.specs.declared.requests.Request.{Request}
use Rattle.fare_law.specs.declared.requests.Slice.{Slice}
use Rattle.fare_law.specs.declared.requests.Why.{Why}
use Rattle.lowfare.specs.Calendars.{TellsCells}
use Rattle.lowfare.specs.Refusals.{IsRefused}
use Rattle.lowfare.specs.declared.status.Status.TheVariants.{Done, Refused}
use Rattle.shop_book.specs.Asked.{asked, calendar_of, calendar_reason, priced_case}
use Rattle.shop_book.specs.Replies.{Priced, TellsReason}
use Rattle.lowfare.specs.declared.outcomes.Outcome.{Outcome}
use Rattle.whole_case.specs.Calendars as Cases
use Rattle.whole_case.specs.Refusals.{refused_at}
use Rattle.whole_case.specs.Stages.{Reads}
use Rattle.whole_case.specs.Texts.{refusal_text}
use Rattle.whole_case.specs.declared.refusals.LoadFault.{LoadFault}
use Rattle.whole_case.specs.declared.refusals.LoadFault.TheVariants.{Refused as RefusedCase, Mem as NoRoom}
use Rattle.whole_case.specs.declared.refusals.Reason.TheVariants.{NotTwo as NotTwoSlices, Span as NoSpan}
use Rattle.whole_case.specs.declared.refusals.Refusal.{Refusal}
use Rattle.lowfare.proofs.Ending.{ends_with}
use Rattle.lowfare.proofs.Refusing.{refused_ends}

-- the days of a calendar fit where its request says that they do
same_spans : (outs backs : ℕ) (slices : List Slice) → spans_fit (record { outs = outs; backs = backs }) slices ≡ Cases.spans_fit outs backs slices
same_spans outs backs [] = refl
same_spans outs backs (out ∷ []) = refl
same_spans outs backs (out ∷ back ∷ []) = refl
same_spans outs backs (out ∷ back ∷ other ∷ more) = refl

-- a test that holds, or fails
where_true : {A : Type 0} (test : Bool) (a b : A) → test ≡ true → a ≡ (if test then a else b)
where_true test a b is = subst (λ t. a ≡ (if t then a else b)) (sym is) refl

where_false : {A : Type 0} (test : Bool) (a b : A) → test ≡ false → b ≡ (if test then a else b)
where_false test a b is = subst (λ t. b ≡ (if t then a else b)) (sym is) refl

two_told : (n : ℕ) → n ≡ 2 → (n == 2) ≡ true
two_told n is = subst (λ n. (n == 2) ≡ true) (sym is) refl

module _ (b : Book) (spans : Spans) (bytes : List ℕ) (q : Request) (is : asked b None bytes (Ok q)) where
  -- the fault of a calendar is the refusal of its request
  pub faulted : (fault : CalendarFault) (text : List ℕ) → judged (known_places b) q ≡ None → HasCause b q spans fault → TellsReason (calendar_reason fault) text → IsRefused (calendar_of b spans.outs spans.backs bytes) text
  faulted (BadRequest why) text right cause told = absurd (none-some why (sym right ∙ cause))
  faulted NotTwo text right cause told = record {
    cause = record { refusal = refused_at 1 NotTwoSlices; refused = inr (q, is, inl (where_false (length q.slices == 2) (Ok tt) (Err (refused_at 1 NotTwoSlices)) (ne_eqb (length q.slices) 2 cause.1))) };
    whole = told;
  }
  faulted Span text right cause told = record {
    cause = record {
      refusal = refused_at 1 NoSpan;
      refused = inr (
        q,
        is,
        inr (
          tt,
          where_true (length q.slices == 2) (Ok tt) (Err (refused_at 1 NotTwoSlices)) (two_told (length q.slices) cause.1),
          inl (where_false (Cases.spans_fit spans.outs spans.backs q.slices) (Ok tt) (Err (refused_at 1 NoSpan)) (sym (same_spans spans.outs spans.backs q.slices) ∙ cause.2)),
        ),
      );
    };
    whole = told;
  }
  faulted NoMemory text right cause told = absurd told

  -- a request with a calendar is one of a calendar
  pub spanned : IsSpanned b q spans → calendar_of b spans.outs spans.backs bytes (Ok q)
  spanned h = (
    q,
    is,
    (
      tt,
      where_true (length q.slices == 2) (Ok tt) (Err (refused_at 1 NotTwoSlices)) (two_told (length q.slices) h.two),
      (tt, where_true (Cases.spans_fit spans.outs spans.backs q.slices) (Ok tt) (Err (refused_at 1 NoSpan)) (sym (same_spans spans.outs spans.backs q.slices) ∙ h.fit), refl),
    ),
  )

module _ (b : Book) (spans : Spans) (budget : ℕ) (bytes : List ℕ) (r : Result Outcome Mem) where
  -- the request is refused before its days are asked for
  pub refused_calendar : (fault : LoadFault) (refusal : Refusal) → Reads {A = Request} (Err fault) (asked b None bytes) → fault ≡ RefusedCase refusal
      → IfOk r (λ o. o.status ≡ Refused) → IfOk r (λ o. o.text ≡ refusal_text refusal) → IfOk r (λ o. Priced b spans budget bytes o.status o.text)
  refused_calendar fault refusal reads is status text = refused_ends (calendar_of b spans.outs spans.backs bytes) (Priced b spans budget bytes) (λ t h. h) r fault refusal (before fault reads) is status text
    where
      before : (fault : LoadFault) → Reads {A = Request} (Err fault) (asked b None bytes) → Reads {A = Request} (Err fault) (calendar_of b spans.outs spans.backs bytes)
      before (RefusedCase refusal) h = inl h
      before NoRoom h = tt

  module _ (q : Request) (is : asked b None bytes (Ok q)) where
    -- its days are
    pub faulted_calendar : (fault : CalendarFault) → judged (known_places b) q ≡ None → HasCause b q spans fault
        → IfOk r (λ o. o.status ≡ Refused) → IfOk r (λ o. TellsReason (calendar_reason fault) o.text) → IfOk r (λ o. Priced b spans budget bytes o.status o.text)
    faulted_calendar fault right cause status text = ends_with r Refused (TellsReason (calendar_reason fault)) (Priced b spans budget bytes) (λ t told. faulted b spans bytes q is fault t right cause told) status text

    -- they are priced
    pub told_calendar : IsSpanned b q spans → IfOk r (λ o. o.status ≡ Done) → IfOk r (λ o. TellsCells spans budget (priced_case b q) o.text) → IfOk r (λ o. Priced b spans budget bytes o.status o.text)
    told_calendar h status text =
        ends_with r Done (TellsCells spans budget (priced_case b q)) (Priced b spans budget bytes) (λ t tells. record { request = q; asked = spanned b spans bytes q is h; tells = tells }) status text
