-- How many lines each section of a case has that is read. Headers stand in one order in every kind of case, so that each
-- section is opened at most once.
use Rattle.std.proofs.Common.{◌≡◌, ◌<◌, ◌≤◌, ◌+◌, ◌⊎◌, ℕ, Bool, true, false, cond, eqb, ltb, not, ◌&&◌, List, [], ◌∷◌, length, Option, Some, None, Result, Ok, Err, refl, ap, sym, subst, ◌∙◌, inl, inr, arith}
use Rattle.std.proofs.lemmas.Bool.{cases_lt}
use Rattle.std.proofs.lemmas.Bool.Decides.{Decides-ltb, nat_tests}
use Rattle.std.proofs.lemmas.List.{length-append}
use Rattle.std.specs.Prelude.{IfOk}
use Rattle.std.specs.List.{flat_map}
use Rattle.fare_law.specs.declared.limits.TheConstants.{MOST_SEAT_ROWS}
use Rattle.fare_law.specs.declared.rows.TextLine.{TextLine}
use Rattle.case_text.specs.declared.contents.Case.{Case}
use Rattle.case_text.specs.declared.contents.Entry.{Entry}
use Rattle.case_text.specs.declared.contents.Entry.TheVariants.{Opens, Place, Flight, Seat, Text}
use Rattle.case_text.specs.declared.faults.CaseFault.{CaseFault}
use Rattle.case_text.specs.declared.faults.CaseFault.TheVariants.{NoEnd, UnknownSection, Order, AfterEnd}
use Rattle.case_text.specs.declared.headers.Header.{Header}
use Rattle.case_text.specs.declared.headers.Header.TheVariants.{Places, Flights, Seats, Filings, Later, Request, Script, Certificate, Ticket, End}
use Rattle.case_text.specs.declared.kinds.CaseKind.{CaseKind}
use Rattle.case_text.specs.declared.kinds.CaseKind.TheVariants.{Search, Check, Serve, Verdict}
use Rattle.case_text.specs.declared.standing.Standing.{Standing}
use Rattle.case_text.specs.Contents.{case_with, lines_in, places_in, flights_in, seats_in}
use Rattle.case_text.specs.Entries.{at_start, case_read, counted, entries, entry_of, has_one_request, has_room, header_judged, is_header, is_over, is_request, judged, limit, line_judged, moved, opened, row_judged, wants_request, ◌>>=◌}
use Rattle.case_text.specs.Headers.{due, is_name, is_named, name_of}
use Rattle.case_text.specs.Limits.{HasCounts, HasRows, IsCase, MayAsk}
use Rattle.case_text.specs.Gives.{Told}
use Rattle.case_text.specs.Rows.{place_row, flight_row, seat_row}
use Rattle.case_text.specs.declared.limits.TheConstants.{MOST_FILINGS, MOST_FLIGHT_ROWS, MOST_PLACES, MOST_REQUESTS, MOST_SCRIPT_LINES}
use Rattle.case_text.proofs.HeaderOrder.{rank, same_rank, same_named, under_rank, rank_some, due_later, due_asks}
use Rattle.law_lemmas.proofs.Options.{ok_same}

-- ---- what a line is where it stands
-- the entry stands in the section of this header
abbrev IsOf : Header → Entry → Type 0
IsOf h (Opens g line) = ⊥
IsOf h (Place row) = h ≡ Places
IsOf h (Flight row) = h ≡ Flights
IsOf h (Seat row) = h ≡ Seats
IsOf h (Text g line) = g ≡ h

record Opening (kind : CaseKind) (st : Standing) (entry : Entry) : Type 0 where
  header : Header
  line : ℕ
  is : Opens header line ≡ entry
  is_due : due kind st.under ≡ Some header
  asked : wants_request kind st ≡ false

record Listing (kind : CaseKind) (st : Standing) (entry : Entry) : Type 0 where
  header : Header
  under : st.under ≡ Some header
  is_of : IsOf header entry
  room : has_room (limit kind header) st.count ≡ true

row_is : {A : Type 0} (h : Header) (make : A → Entry) → ((a : A) → IsOf h (make a)) → (l : TextLine) (r : Result A ℕ) (entry : Entry) → row_judged make l r ≡ Ok entry → IsOf h entry
row_is h make k l (Ok a) entry e = subst (IsOf h) (ok_same (make a) entry e) (k a)
row_is h make k l (Err c) entry e = absurd (cc)

text_is : (h : Header) (l : TextLine) (entry : Entry) → ◌≡◌ {A = Result Entry CaseFault} (Ok (Text h l)) (Ok entry) → IsOf h entry
text_is h l entry e = subst (IsOf h) (ok_same (Text h l) entry e) refl

entry_is : (h : Header) (l : TextLine) (entry : Entry) → entry_of h l ≡ Ok entry → IsOf h entry
entry_is Places l entry e = row_is Places Place (λ a. refl) l (place_row l) entry e
entry_is Flights l entry e = row_is Flights Flight (λ a. refl) l (flight_row l) entry e
entry_is Seats l entry e = row_is Seats Seat (λ a. refl) l (seat_row l) entry e
entry_is Filings l entry e = text_is Filings l entry e
entry_is Later l entry e = text_is Later l entry e
entry_is Request l entry e = text_is Request l entry e
entry_is Script l entry e = text_is Script l entry e
entry_is Certificate l entry e = text_is Certificate l entry e
entry_is Ticket l entry e = text_is Ticket l entry e
entry_is End l entry e = text_is End l entry e

module _ (kind : CaseKind) (st : Standing) (l : TextLine) (entry : Entry) where
  opened_is : (found : Option Header) → due kind st.under ≡ found → wants_request kind st ≡ false → opened l found ≡ Ok entry → Opening kind st entry
  opened_is None d w e = absurd (cc)
  opened_is (Some h) d w e = by (is_named l.bytes h) e
    where
      by : (b : Bool) → cond b (Ok (Opens h l.line)) (Err (Order l.line)) ≡ Ok entry → Opening kind st entry
      by true e = record { header = h; line = l.line; is = ok_same (Opens h l.line) entry e; is_due = d; asked = w }
      by false e = absurd (cc)

  header_is : header_judged kind st l ≡ Ok entry → Opening kind st entry
  header_is e = named (is_name l.bytes) e
    where
      wanted : (b : Bool) → wants_request kind st ≡ b → cond b (Err (Order l.line)) (opened l (due kind st.under)) ≡ Ok entry → Opening kind st entry
      wanted true w e = absurd (cc)
      wanted false w e = opened_is (due kind st.under) refl w e

      named : (b : Bool) → cond (not b) (Err (UnknownSection l.line)) (cond (wants_request kind st) (Err (Order l.line)) (opened l (due kind st.under))) ≡ Ok entry → Opening kind st entry
      named true e = wanted (wants_request kind st) refl e
      named false e = absurd (cc)

  counted_is : (h : Header) → st.under ≡ Some h → (found : Result Entry CaseFault) → entry_of h l ≡ found → (b : Bool) → has_room (limit kind h) st.count ≡ b → counted b l found ≡ Ok entry → Listing kind st entry
  counted_is h u (Ok x) f true r e = record { header = h; under = u; is_of = entry_is h l entry (f ∙ e); room = r }
  counted_is h u (Ok x) f false r e = absurd (cc)
  counted_is h u (Err x) f b r e = absurd (cc)

  line_is : (under : Option Header) → st.under ≡ under → line_judged kind under st.count l ≡ Ok entry → Listing kind st entry
  line_is None u e = absurd (cc)
  line_is (Some h) u e = counted_is h u (entry_of h l) refl (has_room (limit kind h) st.count) refl e

  judged_is : judged kind st l ≡ Ok entry → Opening kind st entry ⊎ Listing kind st entry
  judged_is e = over (is_over st.under) e
    where
      heads : (b : Bool) → cond b (header_judged kind st l) (line_judged kind st.under st.count l) ≡ Ok entry → Opening kind st entry ⊎ Listing kind st entry
      heads true e = inl (header_is e)
      heads false e = inr (line_is st.under refl e)

      over : (b : Bool) → cond b (Err (AfterEnd l.line)) (cond (is_header st.under l.bytes) (header_judged kind st l) (line_judged kind st.under st.count l)) ≡ Ok entry → Opening kind st entry ⊎ Listing kind st entry
      over true e = absurd (cc)
      over false e = heads (is_header st.under l.bytes) e

-- ---- along the lines of a case
module _ (kind : CaseKind) (next : ℕ) (P : Standing → List Entry → Type 0)
    (none : (st : Standing) → is_over st.under ≡ true → P st [])
    (step : (st : Standing) (entry : Entry) (more : List Entry) → Opening kind st entry ⊎ Listing kind st entry → P (moved st entry) more → P st (entry ∷ more)) where
  along : (ls : List TextLine) (st : Standing) (found : List Entry) → entries kind next st ls ≡ Ok found → P st found
  along [] st found e = by (is_over st.under) refl e
    where
      by : (b : Bool) → is_over st.under ≡ b → cond b (Ok []) (Err (NoEnd next)) ≡ Ok found → P st found
      by true o e = subst (P st) (ok_same [] found e) (none st o)
      by false o e = absurd (cc)
  along (l ∷ ls) st found e = taken (judged kind st l) refl e (along ls)
    where
      rest : (entry : Entry) → judged kind st l ≡ Ok entry → (r : Result (List Entry) CaseFault) → entries kind next (moved st entry) ls ≡ r → (r >>= (λ more. Ok (entry ∷ more))) ≡ Ok found
          → ((st : Standing) (found : List Entry) → entries kind next st ls ≡ Ok found → P st found) → P st found
      rest entry j (Ok more) r e rec = subst (P st) (ok_same (entry ∷ more) found e) (step st entry more (judged_is kind st l entry j) (rec (moved st entry) more r))
      rest entry j (Err fault) r e rec = absurd (cc)

      taken : (r : Result Entry CaseFault) → judged kind st l ≡ r → (r >>= (λ entry. entries kind next (moved st entry) ls >>= (λ more. Ok (entry ∷ more)))) ≡ Ok found
          → ((st : Standing) (found : List Entry) → entries kind next st ls ≡ Ok found → P st found) → P st found
      taken (Ok entry) j e rec = rest entry j (entries kind next (moved st entry) ls) refl e rec
      taken (Err fault) j e rec = absurd (cc)

over_is : (under : Option Header) → is_over under ≡ true → under_rank under ≡ 10
over_is None e = absurd (cc)
over_is (Some Places) e = absurd (cc)
over_is (Some Flights) e = absurd (cc)
over_is (Some Seats) e = absurd (cc)
over_is (Some Filings) e = absurd (cc)
over_is (Some Later) e = absurd (cc)
over_is (Some Request) e = absurd (cc)
over_is (Some Script) e = absurd (cc)
over_is (Some Certificate) e = absurd (cc)
over_is (Some Ticket) e = absurd (cc)
over_is (Some End) e = refl

abbrev one_more : Standing → Standing
one_more st = record { under = st.under; count = st.count + 1 }

moved_on : (st : Standing) (h : Header) (entry : Entry) → IsOf h entry → moved st entry ≡ one_more st
moved_on st h (Opens g line) i = absurd i
moved_on st h (Place row) i = refl
moved_on st h (Flight row) i = refl
moved_on st h (Seat row) i = refl
moved_on st h (Text g line) i = refl

-- how many lines of a section are found from a place on
module _ {X : Type 0} (f : Entry → List X) where
  abbrev many : List Entry → ℕ
  many es = length (flat_map f es)

  many_more : (e : Entry) (es : List Entry) → many (e ∷ es) ≡ length (f e) + many es
  many_more e es = length-append (f e) (flat_map f es)

-- ---- at most so many lines of a section
-- while the section is due, while it is open with so many lines before, and after it
record HasRoom (s most : ℕ) (st : Standing) (lines : ℕ) : Type 0 where
  later : under_rank st.under < s → lines ≤ most
  here : under_rank st.under ≡ s → st.count ≤ most → st.count + lines ≤ most
  passed : s < under_rank st.under → lines ≤ 0

module _ {X : Type 0} (f : Entry → List X) (kind : CaseKind) (section : Header) (most : ℕ) (last : rank section < 10)
    (opens : (h : Header) (line : ℕ) → length (f (Opens h line)) ≤ 0)
    (one : (entry : Entry) → length (f entry) ≤ 1)
    (apart : (h : Header) (entry : Entry) → IsOf h entry → (h ≡ section → ⊥) → length (f entry) ≤ 0)
    (holds : (n : ℕ) → has_room (limit kind section) n ≡ true → n < most) where
  abbrev Room : Standing → List Entry → Type 0
  Room st more = HasRoom (rank section) most st (many f more)

  room_none : (st : Standing) → is_over st.under ≡ true → Room st []
  room_none st o = let end : under_rank st.under ≡ 10 = over_is st.under o in record {
    later = λ lt. absurd (omega arith);
    here = λ e n. absurd (omega arith);
    passed = λ lt. omega arith;
  }

  room_opened : (st : Standing) (h : Header) (line : ℕ) (more : List Entry) → due kind st.under ≡ Some h → Room (record { under = Some h; count = 0 }) more → Room st (Opens h line ∷ more)
  room_opened st h line more d r =
      let lt : under_rank st.under < rank h = due_later kind st.under h d in
      let none : many f (Opens h line ∷ more) ≤ many f more = omega (arith, opens h line, many_more f (Opens h line) more) in
      record {
        later = λ l. elim (cases_lt (rank h) (rank section)) [
          | inl before ↦ omega (arith, none, r.later before)
          | inr le ↦ elim (cases_lt (rank section) (rank h)) [
            | inl after ↦ omega (arith, none, r.passed after)
            | inr ge ↦ omega (arith, none, r.here (omega (arith, le, ge)) (omega arith))
          ]
        ];
        here = λ e n. omega (arith, none, r.passed (omega (arith, e, lt)));
        passed = λ l. omega (arith, none, r.passed (omega (arith, l, lt)));
      }

  room_listed : (st : Standing) (h : Header) (entry : Entry) (more : List Entry) → st.under ≡ Some h → IsOf h entry → has_room (limit kind h) st.count ≡ true → Room (one_more st) more → Room st (entry ∷ more)
  room_listed st h entry more u i room r =
      let is : under_rank st.under ≡ rank h = ap under_rank u in
      let added : many f (entry ∷ more) ≡ length (f entry) + many f more = many_more f entry more in
      record {
        later = λ l. omega (arith, added, r.later l, apart h entry i (λ e. lower (ap rank e) is l));
        here = λ e n.
            let same : h ≡ section = same_rank h section (sym is ∙ e) in
            let few : st.count < most = holds st.count (subst (λ x. has_room (limit kind x) st.count ≡ true) same room) in
            omega (arith, added, one entry, few, r.here e (omega (arith, few)));
        passed = λ l. omega (arith, added, r.passed l, apart h entry i (λ e. higher (ap rank e) is l));
      }
    where
      lower : {a b c : ℕ} → a ≡ b → c ≡ a → c < b → ⊥
      lower e f l = omega (arith, e, f, l)

      higher : {a b c : ℕ} → a ≡ b → c ≡ a → b < c → ⊥
      higher e f l = omega (arith, e, f, l)

  room_step : (st : Standing) (entry : Entry) (more : List Entry) → Opening kind st entry ⊎ Listing kind st entry → Room (moved st entry) more → Room st (entry ∷ more)
  room_step st entry more (inl o) r = subst (λ x. Room st (x ∷ more)) o.is (room_opened st o.header o.line more o.is_due (subst (λ x. Room (moved st x) more) (sym o.is) r))
  room_step st entry more (inr l) r = room_listed st l.header entry more l.under l.is_of l.room (subst (λ x. Room x more) (moved_on st l.header entry l.is_of) r)

  at_most : (next : ℕ) (ls : List TextLine) (found : List Entry) → entries kind next at_start ls ≡ Ok found → many f found ≤ most
  at_most next ls found e = (along kind next Room room_none room_step ls at_start found e).later (rank_some section)

-- ---- at least one request
record HasSome (st : Standing) (lines : ℕ) : Type 0 where
  later : under_rank st.under < 6 → 0 < lines
  here : under_rank st.under ≡ 6 → 0 < st.count + lines

abbrev asked : List Entry → ℕ
asked es = many (lines_in Request) es

asked_more : (e : Entry) (es : List Entry) → asked (e ∷ es) ≡ length (lines_in Request e) + asked es
asked_more e es = many_more (lines_in Request) e es

module _ (kind : CaseKind) (single : has_one_request kind ≡ true) where
  some_none : (st : Standing) → is_over st.under ≡ true → HasSome st (asked [])
  some_none st o = let end : under_rank st.under ≡ 10 = over_is st.under o in record { later = λ lt. absurd (omega arith); here = λ e. absurd (omega arith) }

  -- a request that isn't wanted any more is there
  unwanted : (st : Standing) → under_rank st.under ≡ 6 → wants_request kind st ≡ false → 0 < st.count
  unwanted st u w = by st.under refl u w
    where
      count_some : (n : ℕ) → eqb n 0 ≡ false → 0 < n
      count_some n e = grind (arith, nat_tests)

      by : (under : Option Header) → st.under ≡ under → under_rank under ≡ 6 → (is_request under && has_one_request kind && eqb st.count 0) ≡ false → 0 < st.count
      by None o u w = absurd (omega (arith, u))
      by (Some h) o u w = count_some st.count (sym (ap (λ b. b && eqb st.count 0) single) ∙ ap (λ x. is_request (Some x) && has_one_request kind && eqb st.count 0) (sym (same_rank h Request u)) ∙ w)

  some_opened : (st : Standing) (h : Header) (line : ℕ) (more : List Entry) → due kind st.under ≡ Some h → wants_request kind st ≡ false → HasSome (record { under = Some h; count = 0 }) (asked more) → HasSome st (asked (Opens h line ∷ more))
  some_opened st h line more d w r = record {
    later = λ l. elim (cases_lt (rank h) 6) [
      | inl before ↦ r.later before
      | inr le ↦ omega (arith, r.here (omega (arith, le, due_asks kind st.under h l d)))
    ];
    here = λ e. omega (arith, unwanted st e w);
  }

  one_asked : (h : Header) (entry : Entry) → IsOf h entry → h ≡ Request → 0 < length (lines_in Request entry)
  one_asked h (Opens g line) i e = absurd i
  one_asked h (Place row) i e = let r : rank Places ≡ rank Request = ap rank (sym i ∙ e) in absurd (omega (arith, r))
  one_asked h (Flight row) i e = let r : rank Flights ≡ rank Request = ap rank (sym i ∙ e) in absurd (omega (arith, r))
  one_asked h (Seat row) i e = let r : rank Seats ≡ rank Request = ap rank (sym i ∙ e) in absurd (omega (arith, r))
  one_asked h (Text g line) i e = subst (λ x. 0 < length (lines_in Request (Text x line))) (sym (i ∙ e)) (omega arith)

  some_listed : (st : Standing) (h : Header) (entry : Entry) (more : List Entry) → st.under ≡ Some h → IsOf h entry → HasSome (one_more st) (asked more) → HasSome st (asked (entry ∷ more))
  some_listed st h entry more u i r = record {
    later = λ l. omega (arith, asked_more entry more, r.later l);
    here = λ e. omega (arith, asked_more entry more, one_asked h entry i (same_rank h Request (sym (ap under_rank u) ∙ e)));
  }

  some_step : (st : Standing) (entry : Entry) (more : List Entry) → Opening kind st entry ⊎ Listing kind st entry → HasSome (moved st entry) (asked more) → HasSome st (asked (entry ∷ more))
  some_step st entry more (inl o) r = subst (λ x. HasSome st (asked (x ∷ more))) o.is (some_opened st o.header o.line more o.is_due o.asked (subst (λ x. HasSome (moved st x) (asked more)) (sym o.is) r))
  some_step st entry more (inr l) r = some_listed st l.header entry more l.under l.is_of (subst (λ x. HasSome x (asked more)) (moved_on st l.header entry l.is_of) r)

  one_at_least : (next : ℕ) (ls : List TextLine) (found : List Entry) → entries kind next at_start ls ≡ Ok found → 0 < asked found
  one_at_least next ls found e = (along kind next (λ st more. HasSome st (asked more)) some_none some_step ls at_start found e).later (omega arith)

-- ---- the sections one by one
few_places : (e : Entry) → length (places_in e) ≤ 1
few_places (Opens h line) = omega arith
few_places (Place row) = omega arith
few_places (Flight row) = omega arith
few_places (Seat row) = omega arith
few_places (Text h line) = omega arith

few_flights : (e : Entry) → length (flights_in e) ≤ 1
few_flights (Opens h line) = omega arith
few_flights (Place row) = omega arith
few_flights (Flight row) = omega arith
few_flights (Seat row) = omega arith
few_flights (Text h line) = omega arith

few_seats : (e : Entry) → length (seats_in e) ≤ 1
few_seats (Opens h line) = omega arith
few_seats (Place row) = omega arith
few_seats (Flight row) = omega arith
few_seats (Seat row) = omega arith
few_seats (Text h line) = omega arith

few_lines : (section : Header) (e : Entry) → length (lines_in section e) ≤ 1
few_lines section (Opens h line) = omega arith
few_lines section (Place row) = omega arith
few_lines section (Flight row) = omega arith
few_lines section (Seat row) = omega arith
few_lines section (Text h line) = by (is_named (name_of h) section)
  where
    by : (b : Bool) → length (cond b (line ∷ []) []) ≤ 1
    by true = omega arith
    by false = omega arith

no_places : (h : Header) (e : Entry) → IsOf h e → (h ≡ Places → ⊥) → length (places_in e) ≤ 0
no_places h (Opens g line) i n = absurd i
no_places h (Place row) i n = absurd (n i)
no_places h (Flight row) i n = omega arith
no_places h (Seat row) i n = omega arith
no_places h (Text g line) i n = omega arith

no_flights : (h : Header) (e : Entry) → IsOf h e → (h ≡ Flights → ⊥) → length (flights_in e) ≤ 0
no_flights h (Opens g line) i n = absurd i
no_flights h (Place row) i n = omega arith
no_flights h (Flight row) i n = absurd (n i)
no_flights h (Seat row) i n = omega arith
no_flights h (Text g line) i n = omega arith

no_seats : (h : Header) (e : Entry) → IsOf h e → (h ≡ Seats → ⊥) → length (seats_in e) ≤ 0
no_seats h (Opens g line) i n = absurd i
no_seats h (Place row) i n = omega arith
no_seats h (Flight row) i n = omega arith
no_seats h (Seat row) i n = absurd (n i)
no_seats h (Text g line) i n = omega arith

no_lines : (section h : Header) (e : Entry) → IsOf h e → (h ≡ section → ⊥) → length (lines_in section e) ≤ 0
no_lines section h (Opens g line) i n = absurd i
no_lines section h (Place row) i n = omega arith
no_lines section h (Flight row) i n = omega arith
no_lines section h (Seat row) i n = omega arith
no_lines section h (Text g line) i n = by (is_named (name_of g) section) refl
  where
    by : (b : Bool) → is_named (name_of g) section ≡ b → length (cond b (line ∷ []) []) ≤ 0
    by true t = absurd (n (sym i ∙ same_named g section t))
    by false t = omega arith

below : (most n : ℕ) → ltb n most ≡ true → n < most
below most n e = (Decides-ltb n most).0 e

module _ (kind : CaseKind) (next : ℕ) (ls : List TextLine) (found : List Entry) (e : entries kind next at_start ls ≡ Ok found) where
  lines_few : (section : Header) (most : ℕ) → rank section < 10 → ((n : ℕ) → has_room (limit kind section) n ≡ true → n < most) → length (flat_map (lines_in section) found) ≤ most
  lines_few section most last holds = at_most (lines_in section) kind section most last (λ h line. omega arith) (few_lines section) (no_lines section) holds next ls found e

  one_request : has_one_request kind ≡ true → length (flat_map (lines_in Request) found) ≡ 1
  one_request single = omega (arith, one_at_least kind single next ls found e, lines_few Request 1 (omega arith) (λ n r. below 1 n (sym (ap (λ b. has_room (cond b (Some 1) (Some MOST_REQUESTS)) n) single) ∙ r)))

many_requests : (kind : CaseKind) (next : ℕ) (ls : List TextLine) (found : List Entry) → entries kind next at_start ls ≡ Ok found → MayAsk kind (length (flat_map (lines_in Request) found))
many_requests Search next ls found e = one_request Search next ls found e refl
many_requests Check next ls found e = one_request Check next ls found e refl
many_requests Serve next ls found e = lines_few Serve next ls found e Request MOST_REQUESTS (omega arith) (below MOST_REQUESTS)
many_requests Verdict next ls found e = one_request Verdict next ls found e refl

counts_found : (kind : CaseKind) (next : ℕ) (ls : List TextLine) (found : List Entry) → entries kind next at_start ls ≡ Ok found → HasCounts kind (case_with found)
counts_found kind next ls found e = record {
  places = at_most places_in kind Places MOST_PLACES (omega arith) (λ h line. omega arith) few_places no_places (below MOST_PLACES) next ls found e;
  flights = at_most flights_in kind Flights MOST_FLIGHT_ROWS (omega arith) (λ h line. omega arith) few_flights no_flights (below MOST_FLIGHT_ROWS) next ls found e;
  seats = at_most seats_in kind Seats MOST_SEAT_ROWS (omega arith) (λ h line. omega arith) few_seats no_seats (below MOST_SEAT_ROWS) next ls found e;
  filings = lines_few kind next ls found e Filings MOST_FILINGS (omega arith) (below MOST_FILINGS);
  later = lines_few kind next ls found e Later MOST_FILINGS (omega arith) (below MOST_FILINGS);
  requests = many_requests kind next ls found e;
  script = lines_few kind next ls found e Script MOST_SCRIPT_LINES (omega arith) (below MOST_SCRIPT_LINES);
}

case_counts : (kind : CaseKind) (next : ℕ) (ls : List TextLine) (case : Case) → case_read kind next ls ≡ Ok case → HasCounts kind case
case_counts kind next ls case e = by (entries kind next at_start ls) refl e
  where
    by : (r : Result (List Entry) CaseFault) → entries kind next at_start ls ≡ r → (r >>= (λ found. Ok (case_with found))) ≡ Ok case → HasCounts kind case
    by (Ok found) f e = subst (HasCounts kind) (ok_same (case_with found) case e) (counts_found kind next ls found f)
    by (Err fault) f e = absurd (cc)

-- what is read keeps to its limits
pub limits_told : (kind : CaseKind) (next : ℕ) (ls : List TextLine) (r : Result Case CaseFault) → Told r (case_read kind next ls) → IfOk r HasRows → IfOk r (IsCase kind)
limits_told kind next ls (Ok case) told rows = record { rows = rows; counts = case_counts kind next ls case told }
limits_told kind next ls (Err fault) told rows = tt
