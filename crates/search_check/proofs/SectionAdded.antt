-- The lines of a search's case with a section of the certificate are read as the same entries, and those of the section.
use Rattle.std.proofs.Common.{◌≡◌, ◌⊎◌, ◌+◌, ◌==◌, ℕ, List, [], ◌∷◌, ◌++◌, map, Bool, true, false, not, cond, Option, Some, None, Result, Ok, Err, codes, refl, sym, ap, subst, ◌∙◌, inl, inr}
use Rattle.std.specs.List.{flat_map}
use Rattle.case_text.specs.declared.contents.Entry.{Entry}
use Rattle.case_text.specs.declared.contents.Entry.TheVariants.{Opens, Place, Flight, Seat, Text}
use Rattle.case_text.specs.declared.faults.CaseFault.{CaseFault}
use Rattle.case_text.specs.declared.faults.CaseFault.TheVariants.{AfterEnd, Order, UnknownSection}
use Rattle.case_text.specs.declared.headers.Header.{Header}
use Rattle.case_text.specs.declared.headers.Header.TheVariants.{Places, Flights, Seats, Filings, Later, Request, Script, Certificate, Ticket, End}
use Rattle.case_text.specs.declared.kinds.CaseKind.{CaseKind}
use Rattle.case_text.specs.declared.kinds.CaseKind.TheVariants.{Check, Search}
use Rattle.case_text.specs.declared.standing.Standing.{Standing}
use Rattle.case_text.specs.Contents.{lines_in}
use Rattle.case_text.specs.Entries.{begins_header, counted, entries, entry_of, has_room, header_judged, is_header, is_over, judged, limit, line_judged, moved, opened, row_judged, wants_request, ◌>>=◌}
use Rattle.case_text.specs.Headers.{due, is_name, is_named}
use Rattle.case_text.specs.Rows.{flight_row, place_row, seat_row}
use Rattle.fare_law.specs.declared.rows.TextLine.{TextLine}
use Rattle.fare_law.specs.Lists.{Each}
use Rattle.law_lemmas.proofs.Options.{ok_same}

-- the line of #end, and that of the certificate's header
abbrev pub end_line : ℕ → TextLine
end_line n = record { line = n; bytes = codes "#end" }

abbrev pub certificate_line : ℕ → TextLine
certificate_line n = record { line = n; bytes = codes "#certificate" }

-- a header that a search has
abbrev OfSearch : Option Header → Type 0
OfSearch None = Unit {0}
OfSearch (Some Places) = Unit {0}
OfSearch (Some Flights) = Unit {0}
OfSearch (Some Seats) = Unit {0}
OfSearch (Some Filings) = Unit {0}
OfSearch (Some Request) = Unit {0}
OfSearch (Some End) = Unit {0}
OfSearch (Some Later) = ⊥
OfSearch (Some Script) = ⊥
OfSearch (Some Certificate) = ⊥
OfSearch (Some Ticket) = ⊥

-- a step that succeeds has a step before it that does
pub ok_bind : {A B : Type 0} (r : Result A CaseFault) (f : A → Result B CaseFault) (b : B) → (r >>= f) ≡ Ok b → (a : A) × (r ≡ Ok a) × (f a ≡ Ok b)
ok_bind (Ok a) f b e = (a, refl, e)
ok_bind (Err fault) f b e = absurd (cc)

-- ---- headers

opened_is : (l : TextLine) (d : Option Header) (entry : Entry) → opened l d ≡ Ok entry → (h : Header) × (d ≡ Some h) × (entry ≡ Opens h l.line)
opened_is l None entry e = absurd (cc)
opened_is l (Some h) entry e = by (is_named l.bytes h) e
  where
    by : (b : Bool) → cond b (Ok (Opens h l.line)) (Err (Order l.line)) ≡ Ok entry → (g : Header) × (Some h ≡ Some g) × (entry ≡ Opens g l.line)
    by true e = (h, refl, ok_same entry (Opens h l.line) (sym e))
    by false e = absurd (cc)

header_is : (kind : CaseKind) (st : Standing) (l : TextLine) (entry : Entry) → header_judged kind st l ≡ Ok entry → (h : Header) × (due kind st.under ≡ Some h) × (entry ≡ Opens h l.line)
header_is kind st l entry e = by (is_name l.bytes) (wants_request kind st) e
  where
    by : (named wants : Bool) → cond (not named) (Err (UnknownSection l.line)) (cond wants (Err (Order l.line)) (opened l (due kind st.under))) ≡ Ok entry → (h : Header) × (due kind st.under ≡ Some h) × (entry ≡ Opens h l.line)
    by false wants e = absurd (cc)
    by true true e = absurd (cc)
    by true false e = opened_is l (due kind st.under) entry e

due_of : (u : Option Header) (h : Header) → OfSearch u → due Search u ≡ Some h → OfSearch (Some h)
due_of None h of e = subst OfSearch e tt
due_of (Some Places) h of e = subst OfSearch e tt
due_of (Some Flights) h of e = subst OfSearch e tt
due_of (Some Seats) h of e = subst OfSearch e tt
due_of (Some Filings) h of e = subst OfSearch e tt
due_of (Some Request) h of e = subst OfSearch e tt
due_of (Some End) h of e = subst OfSearch e tt
due_of (Some Later) h of e = absurd of
due_of (Some Script) h of e = absurd of
due_of (Some Certificate) h of e = absurd of
due_of (Some Ticket) h of e = absurd of

-- ---- what an entry of a search is

-- where the next line stands, and that the entry is none of a certificate
abbrev Stays : Standing → Entry → Type 0
Stays st entry = OfSearch (moved st entry).under × (lines_in Certificate entry ≡ [])

row_is : {A : Type 0} (f : A → Entry) (l : TextLine) (r : Result A ℕ) (entry : Entry) → row_judged f l r ≡ Ok entry → (a : A) × (entry ≡ f a)
row_is f l (Ok a) entry e = (a, ok_same entry (f a) (sym e))
row_is f l (Err column) entry e = absurd (cc)

counted_is : (room : Bool) (l : TextLine) (r : Result Entry CaseFault) (entry : Entry) → counted room l r ≡ Ok entry → r ≡ Ok entry
counted_is room l (Err fault) entry e = absurd (cc)
counted_is true l (Ok x) entry e = e
counted_is false l (Ok x) entry e = absurd (cc)

text_stays : (u : Header) (count : ℕ) (l : TextLine) (entry : Entry) → OfSearch (Some u) → entry_of u l ≡ Ok entry → Stays (record { under = Some u; count = count }) entry
text_stays Places count l entry of e = let r = row_is Place l (place_row l) entry e in subst (Stays (record { under = Some Places; count = count })) (sym r.1) (tt, refl)
text_stays Flights count l entry of e = let r = row_is Flight l (flight_row l) entry e in subst (Stays (record { under = Some Flights; count = count })) (sym r.1) (tt, refl)
text_stays Seats count l entry of e = let r = row_is Seat l (seat_row l) entry e in subst (Stays (record { under = Some Seats; count = count })) (sym r.1) (tt, refl)
text_stays Filings count l entry of e = subst (Stays (record { under = Some Filings; count = count })) (ok_same (Text Filings l) entry e) (tt, refl)
text_stays Request count l entry of e = subst (Stays (record { under = Some Request; count = count })) (ok_same (Text Request l) entry e) (tt, refl)
text_stays End count l entry of e = subst (Stays (record { under = Some End; count = count })) (ok_same (Text End l) entry e) (tt, refl)
text_stays Later count l entry of e = absurd of
text_stays Script count l entry of e = absurd of
text_stays Certificate count l entry of e = absurd of
text_stays Ticket count l entry of e = absurd of

line_stays : (u : Option Header) (count : ℕ) (l : TextLine) (entry : Entry) → OfSearch u → line_judged Search u count l ≡ Ok entry → Stays (record { under = u; count = count }) entry
line_stays None count l entry of e = absurd (cc)
line_stays (Some u) count l entry of e = text_stays u count l entry of (counted_is (has_room (limit Search u) count) l (entry_of u l) entry e)

stays : (st : Standing) (l : TextLine) (entry : Entry) → OfSearch st.under → judged Search st l ≡ Ok entry → Stays st entry
stays st l entry of e = by (is_over st.under) (is_header st.under l.bytes) e
  where
    by : (over header : Bool) → cond over (Err (AfterEnd l.line)) (cond header (header_judged Search st l) (line_judged Search st.under st.count l)) ≡ Ok entry → Stays st entry
    by true header e = absurd (cc)
    by false false e = line_stays st.under st.count l entry of e
    by false true e = let h = header_is Search st l entry e in subst (Stays st) (sym h.2) (due_of st.under h.0 of h.1, refl)

-- ---- the same line in a case of a check

limit_same : (h : Header) → limit Check h ≡ limit Search h
limit_same Places = refl
limit_same Flights = refl
limit_same Seats = refl
limit_same Filings = refl
limit_same Later = refl
limit_same Request = refl
limit_same Script = refl
limit_same Certificate = refl
limit_same Ticket = refl
limit_same End = refl

line_same : (u : Option Header) (count : ℕ) (l : TextLine) → line_judged Check u count l ≡ line_judged Search u count l
line_same None count l = refl
line_same (Some h) count l = ap (λ m. counted (has_room m count) l (entry_of h l)) (limit_same h)

same_judged : (st : Standing) (l : TextLine) → due Check st.under ≡ due Search st.under → judged Check st l ≡ judged Search st l
same_judged st l e =
    ap (λ d. cond (is_over st.under) (Err (AfterEnd l.line)) (cond (is_header st.under l.bytes) (cond (not (is_name l.bytes)) (Err (UnknownSection l.line)) (cond (wants_request Search st) (Err (Order l.line)) (opened l d))) (line_judged Check st.under st.count l))) e
    ∙ ap (λ j. cond (is_over st.under) (Err (AfterEnd l.line)) (cond (is_header st.under l.bytes) (header_judged Search st l) j)) (line_same st.under st.count l)

-- under the request, where the line is no header
same_plain : (count : ℕ) (l : TextLine) → begins_header l.bytes ≡ false → judged Check (record { under = Some Request; count = count }) l ≡ judged Search (record { under = Some Request; count = count }) l
same_plain count l plain =
    let st : Standing = record { under = Some Request; count = count } in
    ap (λ b. cond b (header_judged Check st l) (line_judged Check (Some Request) count l)) plain ∙ line_same (Some Request) count l ∙ sym (ap (λ b. cond b (header_judged Search st l) (line_judged Search (Some Request) count l)) plain)

some_same : (g h : Header) → Some h ≡ Some g → g ≡ h
some_same g h e = cc

-- a line of a search is the same in a check, or is #end
step : (u : Option Header) (count : ℕ) (l : TextLine) (entry : Entry) → OfSearch u → judged Search (record { under = u; count = count }) l ≡ Ok entry
    → (judged Check (record { under = u; count = count }) l ≡ Ok entry) ⊎ (entry ≡ Opens End l.line)
step None count l entry of e = inl (same_judged (record { under = None; count = count }) l refl ∙ e)
step (Some Places) count l entry of e = inl (same_judged (record { under = Some Places; count = count }) l refl ∙ e)
step (Some Flights) count l entry of e = inl (same_judged (record { under = Some Flights; count = count }) l refl ∙ e)
step (Some Seats) count l entry of e = inl (same_judged (record { under = Some Seats; count = count }) l refl ∙ e)
step (Some Filings) count l entry of e = inl (same_judged (record { under = Some Filings; count = count }) l refl ∙ e)
step (Some End) count l entry of e = inl (same_judged (record { under = Some End; count = count }) l refl ∙ e)
step (Some Request) count l entry of e = by (begins_header l.bytes) refl
  where
    st : Standing
    st = record { under = Some Request; count = count }

    by : (b : Bool) → begins_header l.bytes ≡ b → (judged Check st l ≡ Ok entry) ⊎ (entry ≡ Opens End l.line)
    by false plain = inl (same_plain count l plain ∙ e)
    by true header = let h = header_is Search st l entry (sym (ap (λ b. cond b (header_judged Search st l) (line_judged Search (Some Request) count l)) header) ∙ e) in inr (h.2 ∙ ap (λ g. Opens g l.line) (some_same h.0 End h.1))
step (Some Later) count l entry of e = absurd of
step (Some Script) count l entry of e = absurd of
step (Some Certificate) count l entry of e = absurd of
step (Some Ticket) count l entry of e = absurd of

-- ---- the line of #end

-- #end ends a search after its request
record Ended (u : Option Header) (count n : ℕ) (entry : Entry) : Type 0 where
  under : u ≡ Some Request
  asked : (count == 0) ≡ false
  entry_is : entry ≡ Opens End n

ended : (u : Option Header) (count n : ℕ) (entry : Entry) → OfSearch u → judged Search (record { under = u; count = count }) (end_line n) ≡ Ok entry → Ended u count n entry
ended None count n entry of e = absurd (cc)
ended (Some Places) count n entry of e = absurd (cc)
ended (Some Flights) count n entry of e = absurd (cc)
ended (Some Seats) count n entry of e = absurd (cc)
ended (Some Filings) count n entry of e = absurd (cc)
ended (Some End) count n entry of e = absurd (cc)
ended (Some Request) count n entry of e = by (count == 0) refl e
  where
    by : (b : Bool) → (count == 0) ≡ b → cond b (Err (Order n)) (Ok (Opens End n)) ≡ Ok entry → Ended (Some Request) count n entry
    by true is e = absurd (cc)
    by false is e = record { under = refl; asked = is; entry_is = ok_same entry (Opens End n) (sym e) }
ended (Some Later) count n entry of e = absurd of
ended (Some Script) count n entry of e = absurd of
ended (Some Certificate) count n entry of e = absurd of
ended (Some Ticket) count n entry of e = absurd of

-- after #end no line may follow
over_stops : (next count : ℕ) (ls : List TextLine) (x : TextLine) (more : List Entry) → entries Search next (record { under = Some End; count = count }) (ls ++ x ∷ []) ≡ Ok more → ⊥
over_stops next count [] x more e = absurd (cc)
over_stops next count (l ∷ ls) x more e = absurd (cc)

-- ---- all lines

-- The entries before #end, which are the same in a check, whatever follows the request there.
pub record Before (st : Standing) (ls : List TextLine) (n : ℕ) (es : List Entry) : Type 0 where
  pub front : List Entry
  pub count : ℕ
  pub whole : es ≡ front ++ Opens End n ∷ []
  pub none : flat_map (lines_in Certificate) front ≡ []
  pub asked : (count == 0) ≡ false
  pub on : (next : ℕ) (further : List TextLine) (ts : List Entry) → entries Check next (record { under = Some Request; count = count }) further ≡ Ok ts → entries Check next st (ls ++ further) ≡ Ok (front ++ ts)

pub before : (next : ℕ) (u : Option Header) (count : ℕ) (ls : List TextLine) (n : ℕ) (es : List Entry) → OfSearch u → entries Search next (record { under = u; count = count }) (ls ++ end_line n ∷ []) ≡ Ok es
    → Before (record { under = u; count = count }) ls n es
before next u count [] n es of e =
    let st : Standing = record { under = u; count = count } in
    let r = ok_bind (judged Search st (end_line n)) (λ entry. entries Search next (moved st entry) [] >>= (λ more. Ok (entry ∷ more))) es e in
    let entry = r.0 in
    let s = ok_bind (entries Search next (moved st entry) []) (λ more. Ok (entry ∷ more)) es r.2 in
    let end = ended u count n entry of r.1 in
    record {
      front = [];
      count = count;
      whole = ok_same es (entry ∷ s.0) (sym s.2) ∙ ap (λ x. x ∷ s.0) end.entry_is ∙ ap (λ xs. Opens End n ∷ xs) (nothing s.0 (subst (λ x. entries Search next (moved st x) [] ≡ Ok s.0) end.entry_is s.1));
      none = refl;
      asked = end.asked;
      on = λ k further ts h. subst (λ v. entries Check k (record { under = v; count = count }) further ≡ Ok ts) (sym end.under) h;
    }
  where
    nothing : (more : List Entry) → ◌≡◌ {A = Result (List Entry) CaseFault} (Ok []) (Ok more) → more ≡ []
    nothing more e = ok_same more [] (sym e)
before next u count (l ∷ ls) n es of e =
    let st : Standing = record { under = u; count = count } in
    let r = ok_bind (judged Search st l) (λ entry. entries Search next (moved st entry) (ls ++ end_line n ∷ []) >>= (λ more. Ok (entry ∷ more))) es e in
    let entry = r.0 in
    let s = ok_bind (entries Search next (moved st entry) (ls ++ end_line n ∷ [])) (λ more. Ok (entry ∷ more)) es r.2 in
    let stay = stays st l entry of r.1 in
    elim (step u count l entry of r.1) [
      | inr end ↦ absurd (over_stops next 0 ls (end_line n) s.0 (subst (λ x. entries Search next (moved st x) (ls ++ end_line n ∷ []) ≡ Ok s.0) end s.1))
      | inl check ↦
          let b = before next (moved st entry).under (moved st entry).count ls n s.0 stay.0 s.1 in
          record {
            front = entry ∷ b.front;
            count = b.count;
            whole = ok_same es (entry ∷ s.0) (sym s.2) ∙ ap (λ xs. entry ∷ xs) b.whole;
            none = ap (λ xs. xs ++ flat_map (lines_in Certificate) b.front) stay.1 ∙ b.none;
            asked = b.asked;
            on = λ k further ts h. ap (λ x. x >>= (λ y. entries Check k (moved st y) (ls ++ further) >>= (λ more. Ok (y ∷ more)))) check ∙ ap (λ x. x >>= (λ more. Ok (entry ∷ more))) (b.on k further ts h);
          }
    ]

-- ---- the section of the certificate

pub section : (next count : ℕ) (ls : List TextLine) (n : ℕ) → Each (λ (l : TextLine). is_named l.bytes End ≡ false) ls
    → entries Check next (record { under = Some Certificate; count = count }) (ls ++ end_line n ∷ []) ≡ Ok (map (Text Certificate) ls ++ Opens End n ∷ [])
section next count [] n h = refl
section next count (l ∷ ls) n h =
    let st : Standing = record { under = Some Certificate; count = count } in
    let one : judged Check st l ≡ Ok (Text Certificate l) = ap (λ b. cond b (header_judged Check st l) (Ok (Text Certificate l))) h.0 in
    ap (λ x. x >>= (λ y. entries Check next (moved st y) (ls ++ end_line n ∷ []) >>= (λ more. Ok (y ∷ more)))) one
    ∙ ap (λ x. x >>= (λ more. Ok (Text Certificate l ∷ more))) (section next (count + 1) ls n h.1)

-- its header after the request
pub after_request : (next count m : ℕ) (ls : List TextLine) (n : ℕ) → (count == 0) ≡ false → Each (λ (l : TextLine). is_named l.bytes End ≡ false) ls
    → entries Check next (record { under = Some Request; count = count }) (certificate_line m ∷ (ls ++ end_line n ∷ [])) ≡ Ok (Opens Certificate m ∷ (map (Text Certificate) ls ++ Opens End n ∷ []))
after_request next count m ls n asked h =
    let st : Standing = record { under = Some Request; count = count } in
    let one : judged Check st (certificate_line m) ≡ Ok (Opens Certificate m) = ap (λ b. cond b (Err (Order m)) (Ok (Opens Certificate m))) asked in
    ap (λ x. x >>= (λ y. entries Check next (moved st y) (ls ++ end_line n ∷ []) >>= (λ more. Ok (y ∷ more)))) one
    ∙ ap (λ x. x >>= (λ more. Ok (Opens Certificate m ∷ more))) (section next 0 ls n h)
