-- From a book to the next one.
use Rattle.std.proofs.Common.{◌≡◌, ◌<◌, ◌+◌, ℕ, Bool, true, false, cond, List, [], ◌∷◌, ◌++◌, length, map, take, get_or, Global, Option, Some, None, option_map, refl, sym, ap, subst, ◌∙◌, inl, arith}
use Rattle.std.specs.Arc.{arc_value}
use Rattle.std.specs.List.{AllZip}
use Rattle.std.specs.Map.{lookup}
use Rattle.std.specs.Option.{MatchOption}
use Rattle.std.specs.declared.sync.Arc.{Arc}
use Rattle.std.proofs.lemmas.List.{map-append}
use Rattle.seat_classes.specs.Held.{seats_at}
use Rattle.fare_book.specs.Counts.{Exactly}
use Rattle.fare_law.specs.declared.fares.Fare.{Fare}
use Rattle.fare_law.specs.declared.fares.FareKey.{FareKey}
use Rattle.fare_law.specs.declared.filings.Filing.{Filing}
use Rattle.fare_law.specs.declared.filings.SeatKey.{SeatKey}
use Rattle.fare_law.specs.declared.rules.Rule.{Rule}
use Rattle.fare_law.specs.Book.{Book, Timetable, actions, live_fare, live_rule, live_seats}
use Rattle.fare_law.specs.Faults.{filed}
use Rattle.fare_law.specs.FilingLimits.{IsFiling}
use Rattle.fare_law.specs.Sheets.{IsLiveRow, Sheet, SheetOf}
use Rattle.fare_book.specs.Drafts.{Drafts, FaresKept, Keeping, RulesKept, SeatsKept, drafted_seats}
use Rattle.fare_book.specs.Keeping.{History, Keeps, NoFare, RulesStand, Sheets, sheet_at, uses_at}
use Rattle.fare_book.specs.Keys.{same_market, same_rule}
use Rattle.fare_book.specs.Ready.{Ready}
use Rattle.fare_book.specs.Tables.{MarketHolds, NamesRule, Untouched}
use Rattle.fare_book.specs.Taking.{NoneStops}
use Rattle.fare_book.specs.declared.draft.Draft.{Draft}
use Rattle.fare_book.specs.declared.fare_table.FareTable.{FareTable}
use Rattle.fare_book.specs.declared.keys.Market.{Market}
use Rattle.fare_book.specs.declared.keys.RuleKey.{RuleKey}
use Rattle.fare_law.specs.declared.limits.TheConstants.{MOST_ENTRIES}
use Rattle.fare_book.proofs.Following.{filed_actions, rule_free, same_fares, same_rules, same_seats}
use Rattle.fare_book.proofs.LastActions.{live_key}
use Rattle.fare_book.proofs.LiveRows.{row_live}
use Rattle.fare_book.proofs.TakingLemmas.{legal_more, no_fault}
use Rattle.law_lemmas.proofs.EachOne.{each_more}
use Rattle.law_lemmas.proofs.Lists.{front_read}

length_push : {X : Type 0} (xs : List X) (x : X) → length (xs ++ x ∷ []) ≡ length xs + 1
length_push [] x = omega arith
length_push (y ∷ ys) x = omega (arith, length_push ys x)

-- ---- copies of maps
pub copied_arcs : {K X Z : Type 0} (old new : List (K × Arc X Z)) → AllZip (λ p q. (q.0 ≡ p.0) × (arc_value q.1 ≡ arc_value p.1)) old new → (test : K → Bool) → option_map arc_value (lookup test new) ≡ option_map arc_value (lookup test old)
copied_arcs [] [] a test = refl
copied_arcs [] (q ∷ qs) a test = absurd a
copied_arcs (p ∷ ps) [] a test = absurd a
copied_arcs (p ∷ ps) (q ∷ qs) a test =
    ap (λ k. option_map arc_value (cond (test k) (Some q.1) (lookup test qs))) a.0.0 ∙ by (test p.0) (copied_arcs ps qs a.1 test)
  where
    by : (t : Bool) → option_map arc_value (lookup test qs) ≡ option_map arc_value (lookup test ps) → option_map arc_value (cond t (Some q.1) (lookup test qs)) ≡ option_map arc_value (cond t (Some p.1) (lookup test ps))
    by true h = ap Some a.0.1
    by false h = h

copied_values : {K X : Type 0} (old new : List (K × X)) → AllZip (λ p q. (q.0 ≡ p.0) × (q.1 ≡ p.1)) old new → (test : K → Bool) → lookup test new ≡ lookup test old
copied_values [] [] a test = refl
copied_values [] (q ∷ qs) a test = absurd a
copied_values (p ∷ ps) [] a test = absurd a
copied_values (p ∷ ps) (q ∷ qs) a test = ap (λ k. cond (test k) (Some q.1) (lookup test qs)) a.0.0 ∙ by (test p.0) (copied_values ps qs a.1 test)
  where
    by : (t : Bool) → lookup test qs ≡ lookup test ps → cond t (Some q.1) (lookup test qs) ≡ cond t (Some p.1) (lookup test ps)
    by true h = ap Some a.0.1
    by false h = h

-- ---- from a book to its draft
old_sheet : (b : Book) (m : Market) (o : Option Sheet) → RulesStand b → MatchOption o (NoFare b m.from m.to) (SheetOf b m.from m.to) → Untouched (live_fare b) (live_rule b) [] m o
old_sheet b m None stand h = h
old_sheet b m (Some s) stand h = record {
  filed_from = h.filed_from;
  filed_to = h.filed_to;
  some = h.some;
  ascending = h.ascending;
  rows_are = λ row i. let l = (h.live row).0 i in record { filed_from = l.filed_from; filed_to = l.filed_to; live = l.fare; rule_is = inl l.rule };
  all = λ key f l from to.
      let row = row_live b key f stand l in
      (record { fare = f; rule = row.0 }, (h.live (record { fare = f; rule = row.0 })).1 (moved key f from to row.0 row.1), refl);
}
  where
    moved : (key : FareKey) (f : Fare) → key.from ≡ m.from → key.to ≡ m.to → (rule : Rule) → IsLiveRow b key.from key.to (record { fare = f; rule = rule }) → IsLiveRow b m.from m.to (record { fare = f; rule = rule })
    moved key f from to rule l = record { filed_from = l.filed_from ∙ from; filed_to = l.filed_to ∙ to; fare = l.fare; rule = l.rule }

nothing_more : {X : Type 0} (xs : List X) → xs ++ [] ≡ xs
nothing_more [] = refl
nothing_more (x ∷ xs) = ap (λ ys. x ∷ ys) (nothing_more xs)

pub filed_nothing : (b : Book) (d : Draft) → Drafts b d → Drafts (filed b []) d
filed_nothing b d k =
    let same : actions (filed b []) ≡ actions b = filed_actions b [] ∙ nothing_more (actions b) in
    subst (λ f. Keeping f (live_rule (filed b [])) (live_seats (filed b [])) d) (sym (same_fares b (filed b []) refl same))
    (subst (λ r. Keeping (live_fare b) r (live_seats (filed b [])) d) (sym (same_rules b (filed b []) refl same)) (subst (λ s. Keeping (live_fare b) (live_rule b) s d) (sym (same_seats b (filed b []) refl same)) k))

pub book_drafts : {Z : Type 0} (b : Book) (sheets copied_sheets : List (Market × Arc Sheet Z)) (rules copied_rules : List (RuleKey × Rule)) (uses copied_uses : List (RuleKey × ℕ)) (fare_count rule_count : ℕ) (held copied_held : List (SeatKey × List ℕ))
    → Keeps b sheets rules uses fare_count rule_count held → AllZip (λ p q. (q.0 ≡ p.0) × (arc_value q.1 ≡ arc_value p.1)) sheets copied_sheets → AllZip (λ p q. (q.0 ≡ p.0) × (q.1 ≡ p.1)) rules copied_rules → copied_uses ≡ uses → copied_held ≡ held
    → FaresKept (live_fare b) (live_rule b) [] copied_sheets [] fare_count copied_uses × RulesKept (live_rule b) copied_rules rule_count × SeatsKept (live_seats b) copied_held
book_drafts b sheets copied_sheets rules copied_rules uses copied_uses fare_count rule_count held copied_held k s r u h = (
  record {
    markets = λ m. subst (Untouched (live_fare b) (live_rule b) [] m) (sym (copied_arcs sheets copied_sheets s (same_market m))) (old_sheet b m (sheet_at sheets m) k.counted.stand (k.sheets_are m));
    counted = k.counted.fares;
    few = k.counted.few_fares;
    uses_are = subst (λ us. (q : RuleKey) → Exactly (uses_at us q) (NamesRule (live_fare b) q)) (sym u) k.counted.uses;
    keyed = live_key b;
  },
  record {
    rules_are = λ q n. copied_values rules copied_rules r (same_rule q) ∙ k.rules_are q n;
    counted = k.counted.rules;
    few = k.counted.few_rules;
    free = rule_free b;
  },
  record {
    seats_are = λ q. ap (λ hs. seats_at hs q) h ∙ k.seats_are q;
    few = k.counted.seats;
  },
)

-- ---- from a draft to the next book
pub draft_ready : (b : Book) (d : Draft) (tables : List (Market × FareTable)) → Drafts b d → ((m : Market) → MarketHolds (live_fare b) (live_rule b) [] d.sheets.entries tables m) → Ready b d.sheets.entries tables d.rules.entries
draft_ready b d tables k holds = record {
  markets = holds;
  ruled = record { rules_are = k.rules_kept.rules_are; stand = k.stand; few = λ n many. omega (arith, k.fares_kept.few, k.fares_kept.counted.most n many) };
}

-- a history with one filing more, which has no fault
pub history_more : (b : Book) (filing : Filing) → History b → length b.entries < MOST_ENTRIES → IsFiling filing → NoneStops b filing.actions → History (filed b filing.actions)
history_more b filing h few limits none = record {
  filings = each_more IsFiling b.entries filing h.filings limits;
  legal = legal_more b.timetable b.entries filing h.legal (no_fault b filing few none);
  few = omega (arith, few, length_push b.entries filing);
}

-- what a draft keeps, with the sheets that it makes
pub draft_closes : (b : Book) (d : Draft) (sheets : List (Market × Arc Sheet Global)) (held : List (SeatKey × List ℕ)) → History b → Drafts b d → Sheets b sheets → held ≡ drafted_seats d
    → Keeps b sheets d.rules.entries d.uses.entries d.fare_count d.rule_count held
draft_closes b d sheets held h k right is = record {
  history = h;
  sheets_are = right;
  rules_are = k.rules_kept.rules_are;
  counted = record {
    fares = k.fares_kept.counted;
    few_fares = k.fares_kept.few;
    rules = k.rules_kept.counted;
    few_rules = k.rules_kept.few;
    seats = k.seats_kept.few;
    uses = k.fares_kept.uses_are;
    stand = k.stand;
  };
  seats_are = λ q. ap (λ hs. seats_at hs q) is ∙ k.seats_kept.seats_are q;
}

pub next_keeps : (b : Book) (filing : Filing) (d : Draft) (sheets : List (Market × Arc Sheet Global)) (held : List (SeatKey × List ℕ)) → History b → length b.entries < MOST_ENTRIES → IsFiling filing → NoneStops b filing.actions
    → Drafts (filed b filing.actions) d → Sheets (filed b filing.actions) sheets → held ≡ drafted_seats d
    → Keeps (filed b filing.actions) sheets d.rules.entries d.uses.entries d.fare_count d.rule_count held
next_keeps b filing d sheets held h few limits none k right is = draft_closes (filed b filing.actions) d sheets held (history_more b filing h few limits none) k right is

pub draft_keeps : (b : Book) (d : Draft) (sheets : List (Market × Arc Sheet Global)) (rules : List (RuleKey × Rule)) (uses : List (RuleKey × ℕ)) (held : List (SeatKey × List ℕ)) → Keeps b sheets rules uses d.fare_count d.rule_count held
    → AllZip (λ p q. (q.0 ≡ p.0) × (arc_value q.1 ≡ arc_value p.1)) sheets d.sheets.entries → AllZip (λ p q. (q.0 ≡ p.0) × (q.1 ≡ p.1)) rules d.rules.entries → d.uses.entries ≡ uses → drafted_seats d ≡ held → d.tables.entries ≡ [] → d.changed.keys ≡ []
    → Drafts (filed b []) d
draft_keeps b d sheets rules uses held k s r u h t c =
    let parts = book_drafts b sheets d.sheets.entries rules d.rules.entries uses d.uses.entries d.fare_count d.rule_count held (drafted_seats d) k s r u h in
    filed_nothing b d (record {
      fares_kept = subst (λ ch. FaresKept (live_fare b) (live_rule b) ch d.sheets.entries d.tables.entries d.fare_count d.uses.entries) (sym c) (subst (λ ts. FaresKept (live_fare b) (live_rule b) [] d.sheets.entries ts d.fare_count d.uses.entries) (sym t) parts.0);
      rules_kept = parts.1;
      seats_kept = parts.2;
      stand = k.counted.stand;
    })

-- ---- entries
pub copied_more : {X Y : Type 0} (f : X → Y) (all new src : List X) (x e : X) (i : ℕ) → new ≡ all ++ x ∷ [] → f x ≡ f e → e ≡ get_or src i e → i < length src → map f all ≡ map f (take i src) → map f new ≡ map f (take (i + 1) src)
copied_more f all new src x e i pushed same is within so =
    ap (map f) pushed ∙ map-append f all (x ∷ []) ∙ ap (λ z. z ++ f x ∷ []) so ∙ ap (λ z. map f (take i src) ++ z ∷ []) same
    ∙ sym (map-append f (take i src) (e ∷ [])) ∙ sym (ap (map f) (front_read src i e e within is))

pub entry_more : {X Y : Type 0} (f : X → Y) (all new src : List X) (x : X) → new ≡ all ++ x ∷ [] → map f all ≡ map f src → map f new ≡ map f src ++ f x ∷ []
entry_more f all new src x pushed same = ap (map f) pushed ∙ map-append f all (x ∷ []) ∙ ap (λ z. z ++ f x ∷ []) same

-- what a book that is made of these shows
pub next_view : (b : Book) (timetable : Arc Timetable Global) (entries : List (Arc Filing Global)) (new_timetable : Arc Timetable Global) (new_entries : List (Arc Filing Global)) (filing : Filing) (slice : List (Arc Filing Global))
    → record { timetable = arc_value timetable; entries = map arc_value entries } ≡ b → arc_value new_timetable ≡ arc_value timetable → slice ≡ entries → map arc_value new_entries ≡ map arc_value slice ++ filing ∷ []
    → ◌≡◌ {A = Book} (record { timetable = arc_value new_timetable; entries = map arc_value new_entries }) (record { timetable = b.timetable; entries = b.entries ++ filing ∷ [] })
next_view b timetable entries new_timetable new_entries filing slice view t s e =
    let times : arc_value new_timetable ≡ b.timetable = t ∙ ap (λ (v : Book). v.timetable) view in
    let all : map arc_value new_entries ≡ b.entries ++ filing ∷ [] = e ∙ ap (λ es. map arc_value es ++ filing ∷ []) s ∙ ap (λ (v : Book). v.entries ++ filing ∷ []) view in
    λ i. record { timetable = times i; entries = all i }
