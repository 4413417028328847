-- The rows of a table, as a sheet takes them.
use Rattle.std.proofs.Common.{◌≡◌, ◌≢◌, ◌⊎◌, suc, Bool, true, false, cond, List, [], ◌∷◌, ◌++◌, length, Some, None, IsSome, refl, sym, ap, ap₂, subst, ◌∙◌, inl, inr, arith}
use Rattle.std.specs.Cmp.Lexicographic.{slice_cmp}
use Rattle.std.specs.List.{AllByRecursion}
use Rattle.std.specs.List.Sorted.{IsStrictlySortedBy}
use Rattle.std.specs.Map.{keys_of, lookup}
use Rattle.std.specs.Ordering.{MatchOrdering, nat_cmp, ordering_then}
use Rattle.std.specs.declared.cmp.Ordering.{Ordering}
use Rattle.std.specs.declared.cmp.Ordering.TheVariants.{Less as Lower, Equal, Greater}
use Rattle.std.proofs.lemmas.Bool.{false_from_ne_true}
use Rattle.std.proofs.lemmas.Cmp.{nat_list_cmp_total, tied_itself}
use Rattle.fare_law.specs.contracts.fares.FareKeyOrd.TheImpl as fare_order
use Rattle.fare_law.specs.declared.fares.Fare.{Fare}
use Rattle.fare_law.specs.declared.fares.FareKey.{FareKey}
use Rattle.fare_law.specs.declared.names.Place.{Place}
use Rattle.fare_law.specs.declared.rules.Rule.{Rule}
use Rattle.fare_law.specs.declared.sheets.SheetRow.{SheetRow}
use Rattle.fare_law.specs.Book.{Book, live_fare, live_rule, same_key}
use Rattle.fare_law.specs.Lists.{AllDifferent, Each, EachPair, IsIn, Matched, Less}
use Rattle.fare_law.specs.Sheets.{IsLiveRow, IsSheet, RowBefore, SheetOf}
use Rattle.fare_book.specs.Keeping.{IsLive, Rules}
use Rattle.fare_book.specs.Ready.{MakesSheet}
use Rattle.fare_book.specs.Tables.{in_market}
use Rattle.fare_book.specs.declared.keys.Market.{Market}
use Rattle.fare_book.specs.declared.keys.RuleKey.{RuleKey}
use Rattle.fare_book.proofs.LastActions.{live_key}
use Rattle.fare_book.proofs.SameKeys.{same_fares_tell}
use Rattle.fare_book.proofs.TableRows.{in_market_is, in_market_tells}
use Rattle.law_lemmas.proofs.Options.{some_there}
use Rattle.law_lemmas.proofs.Pairs.{matched_from_left, matched_from_right, matched_length, matched_more}
use Rattle.law_lemmas.proofs.Words.{words_told}

lookup_in : {X : Type 0} (table : List (FareKey × X)) (key : FareKey) (x : X) → lookup (same_key key) table ≡ Some x → (e : FareKey × X) × IsIn e table × (e.1 ≡ x)
lookup_in [] key x s = absurd (cc)
lookup_in (e ∷ es) key x s = by (lookup_in es key x) (same_key key e.0) s
  where
    one : Some e.1 ≡ Some x → e.1 ≡ x
    one t = cc

    by : (lookup (same_key key) es ≡ Some x → (e : FareKey × _) × IsIn e es × (e.1 ≡ x)) → (t : Bool) → cond t (Some e.1) (lookup (same_key key) es) ≡ Some x → (d : FareKey × _) × IsIn d (e ∷ es) × (d.1 ≡ x)
    by rest true s = (e, inl refl, one s)
    by rest false s = let found = rest s in (found.0, inr found.1, found.2)

all_apart : (es : List (FareKey × Fare)) → IsStrictlySortedBy fare_order.ghosts.cmp (keys_of es) → AllDifferent (keys_of es)
unfolding IsStrictlySortedBy
all_apart [] s = tt
all_apart (e ∷ es) s = (apart e.0 (keys_of es) s.0, all_apart es s.1)
  where
    not_less : (k : FareKey) → fare_order.ghosts.cmp k k ≡ Lower → ⊥
    not_less k e = same_not (fare_order.ghosts.cmp k k) (cmp_same k) e
      where
        same_not : (o : Ordering) → o ≡ Equal → o ≡ Lower → ⊥
        same_not Lower e f = cc
        same_not Equal e f = cc
        same_not Greater e f = cc

        cmp_same : (k : FareKey) → fare_order.ghosts.cmp k k ≡ Equal
        cmp_same k = ap₂ ordering_then (tied_itself nat_list_cmp_total k.carrier.0) (ap₂ ordering_then (tied_itself nat_list_cmp_total k.from.0) (ap₂ ordering_then (tied_itself nat_list_cmp_total k.to.0) (tied_itself nat_list_cmp_total k.basis.0)))

    apart : (k : FareKey) (ks : List FareKey) → AllByRecursion (λ l. fare_order.ghosts.cmp k l ≡ Lower) ks → Each (λ l. k ≢ l) ks
    apart k [] a = tt
    apart k (l ∷ ls) a = (λ e. not_less k (ap (fare_order.ghosts.cmp k) e ∙ a.0), apart k ls a.1)

pub sorted_one : (fare : Fare) → IsStrictlySortedBy fare_order.ghosts.cmp (keys_of ((fare.key, fare) ∷ []))
unfolding IsStrictlySortedBy
sorted_one fare = (tt, tt)

lookup_member : (es : List (FareKey × Fare)) → AllDifferent (keys_of es) → (e : FareKey × Fare) → IsIn e es → lookup (same_key e.0) es ≡ Some e.1
lookup_member [] d e i = absurd i
lookup_member (x ∷ es) d e (inl s) = ap₂ (λ (y : FareKey × Fare) t. cond t (Some y.1) (lookup (same_key e.0) es)) (sym s) ((same_fares_tell e.0 x.0).1 (ap (λ (y : FareKey × Fare). y.0) s))
lookup_member (x ∷ es) d e (inr i) = ap (λ t. cond t (Some x.1) (lookup (same_key e.0) es)) (false_from_ne_true (same_key e.0 x.0) (λ t. other es d.0 i (sym ((same_fares_tell e.0 x.0).0 t)))) ∙ lookup_member es d.1 e i
  where
    other : (ys : List (FareKey × Fare)) → Each (λ l. x.0 ≢ l) (keys_of ys) → IsIn e ys → x.0 ≡ e.0 → ⊥
    other [] h i s = i
    other (y ∷ ys) h (inl q) s = h.0 (s ∙ ap (λ (z : FareKey × Fare). z.0) q)
    other (y ∷ ys) h (inr q) s = other ys h.1 q s

module _ (rules : List (RuleKey × Rule)) where
  -- the row has the fare of the entry and its live rule
  pub record MadeOf (row : SheetRow) (entry : FareKey × Fare) : Type 0 where
    pub fare_is : row.fare ≡ entry.1
    pub rule_is : (b : Book) → Rules b rules → IsSome (live_rule b row.fare.key.carrier row.fare.rule) → live_rule b row.fare.key.carrier row.fare.rule ≡ Some row.rule

  abbrev pub Made : List SheetRow → List (FareKey × Fare) → Type 0
  Made rows entries = Matched MadeOf rows entries

  pub made_push : (rows new : List SheetRow) (entries all : List (FareKey × Fare)) (row : SheetRow) (entry : FareKey × Fare) → new ≡ rows ++ row ∷ [] → all ≡ entries ++ entry ∷ [] → MadeOf row entry → Made rows entries → Made new all
  made_push rows new entries all row entry pushed more made m =
      subst (λ rs. Made rs all) (sym pushed) (subst (Made (rows ++ row ∷ [])) (sym more) (matched_more MadeOf rows entries row entry m made))

  -- the only fare of a table
  pub made_one : (old rows : List SheetRow) (copy fare : Fare) (rule : Rule) → old ≡ [] → rows ≡ old ++ record { fare = copy; rule = rule } ∷ [] → copy ≡ fare
      → ((b : Book) → Rules b rules → IsSome (live_rule b fare.key.carrier fare.rule) → live_rule b fare.key.carrier fare.rule ≡ Some rule) → Made rows ((fare.key, fare) ∷ [])
  made_one old rows copy fare rule none pushed is told =
      subst (λ rs. Made rs ((fare.key, fare) ∷ [])) (sym (pushed ∙ ap (λ rs. rs ++ record { fare = copy; rule = rule } ∷ []) none))
      (record { fare_is = is; rule_is = subst (λ (f : Fare). (b : Book) → Rules b rules → IsSome (live_rule b f.key.carrier f.rule) → live_rule b f.key.carrier f.rule ≡ Some rule) (sym is) told }, tt)

  module _ (b : Book) (m : Market) (entries : List (FareKey × Fare)) (makes : MakesSheet b m entries rules) (sorted : IsStrictlySortedBy fare_order.ghosts.cmp (keys_of entries)) where
    one : (x y : Fare) → Some x ≡ Some y → x ≡ y
    one x y e = cc

    record EntryLives (e : FareKey × Fare) : Type 0 where
      pub from : e.1.key.from ≡ m.from
      pub to : e.1.key.to ≡ m.to
      pub live : live_fare b e.0 ≡ Some e.1
      pub key : e.0 ≡ e.1.key

    entry_lives : (e : FareKey × Fare) → IsIn e entries → EntryLives e
    entry_lives e i = by (in_market m e.0) refl (sym (makes.table_is e.0) ∙ lookup_member entries (all_apart entries sorted) e i)
      where
        by : (t : Bool) → in_market m e.0 ≡ t → cond t (live_fare b e.0) None ≡ Some e.1 → EntryLives e
        by true t l =
            let key : e.0 ≡ e.1.key = live_key b e.0 e.1 l in
            let told = in_market_tells m e.0 t in
            record { from = ap (λ (k : FareKey). k.from) (sym key) ∙ told.0; to = ap (λ (k : FareKey). k.to) (sym key) ∙ told.1; live = l; key = key }
        by false t l = absurd (cc)

    row_lives : (rows : List SheetRow) → Made rows entries → (row : SheetRow) → IsIn row rows → IsLiveRow b m.from m.to row
    row_lives rows made row i =
        let at = matched_from_left MadeOf rows entries row made i in
        let lives = entry_lives at.0 at.1 in
        let fare : row.fare ≡ at.0.1 = at.2.fare_is in
        let live : live_fare b row.fare.key ≡ Some row.fare = ap (λ (x : Fare). live_fare b x.key) fare ∙ ap (live_fare b) (sym lives.key) ∙ lives.live ∙ ap Some (sym fare) in
        record {
          filed_from = ap (λ (x : Fare). x.key.from) fare ∙ lives.from;
          filed_to = ap (λ (x : Fare). x.key.to) fare ∙ lives.to;
          fare = live;
          rule = at.2.rule_is b makes.ruled.rules_are (makes.ruled.stand row.fare.key row.fare live);
        }

    lives_row : (rows : List SheetRow) → Made rows entries → (row : SheetRow) → IsLiveRow b m.from m.to row → IsIn row rows
    lives_row rows made row live =
        let has : lookup (same_key row.fare.key) entries ≡ Some row.fare = makes.table_is row.fare.key ∙ ap (λ t. cond t (live_fare b row.fare.key) None) (in_market_is m row.fare.key live.filed_from live.filed_to) ∙ live.fare in
        let entry = lookup_in entries row.fare.key row.fare has in
        let at = matched_from_right MadeOf rows entries entry.0 made entry.1 in
        let fare : at.0.fare ≡ row.fare = at.2.fare_is ∙ entry.2 in
        let lives = row_lives rows made at.0 at.1 in
        let rule : at.0.rule ≡ row.rule = rules_one at.0.rule row.rule (sym lives.rule ∙ ap (λ (x : Fare). live_rule b x.key.carrier x.rule) fare ∙ live.rule) in
        subst (λ r. IsIn r rows) (whole at.0 row fare rule) at.1
      where
        rules_one : (r s : Rule) → Some r ≡ Some s → r ≡ s
        rules_one r s e = cc

        whole : (r s : SheetRow) → r.fare ≡ s.fare → r.rule ≡ s.rule → r ≡ s
        whole r s f u = λ i. record { fare = f i; rule = u i }

    -- ---- in order
    names_before : (k l : FareKey) → k.from ≡ l.from → k.to ≡ l.to → fare_order.ghosts.cmp k l ≡ Lower → Less k.carrier.0 l.carrier.0 ⊎ ((k.carrier ≡ l.carrier) × Less k.basis.0 l.basis.0)
    names_before k l f t e = by (slice_cmp nat_cmp k.carrier.0 l.carrier.0) (words_told k.carrier.0 l.carrier.0) (sym (ap (ordering_then (slice_cmp nat_cmp k.carrier.0 l.carrier.0)) (ap₂ (λ x y. ordering_then x (ordering_then y (slice_cmp nat_cmp k.basis.0 l.basis.0))) from_same to_same)) ∙ e)
      where
        from_same : slice_cmp nat_cmp k.from.0 l.from.0 ≡ Equal
        from_same = ap (λ (p : Place). slice_cmp nat_cmp k.from.0 p.0) (sym f) ∙ tied_itself nat_list_cmp_total k.from.0

        to_same : slice_cmp nat_cmp k.to.0 l.to.0 ≡ Equal
        to_same = ap (λ (p : Place). slice_cmp nat_cmp k.to.0 p.0) (sym t) ∙ tied_itself nat_list_cmp_total k.to.0

        carriers : k.carrier.0 ≡ l.carrier.0 → k.carrier ≡ l.carrier
        carriers c = λ i. record { 0 = c i }

        basis : (o : Ordering) → MatchOrdering o (Less k.basis.0 l.basis.0) (k.basis.0 ≡ l.basis.0) (Less l.basis.0 k.basis.0) → o ≡ Lower → Less k.basis.0 l.basis.0
        basis Lower h e = h
        basis Equal h e = absurd (cc)
        basis Greater h e = absurd (cc)

        by : (o : Ordering) → MatchOrdering o (Less k.carrier.0 l.carrier.0) (k.carrier.0 ≡ l.carrier.0) (Less l.carrier.0 k.carrier.0) → ordering_then o (slice_cmp nat_cmp k.basis.0 l.basis.0) ≡ Lower
            → Less k.carrier.0 l.carrier.0 ⊎ ((k.carrier ≡ l.carrier) × Less k.basis.0 l.basis.0)
        by Lower h e = inl h
        by Equal h e = inr (carriers h, basis (slice_cmp nat_cmp k.basis.0 l.basis.0) (words_told k.basis.0 l.basis.0) e)
        by Greater h e = absurd (cc)

    pair_before : (r s : SheetRow) (d e : FareKey × Fare) → MadeOf r d → MadeOf s e → EntryLives d → EntryLives e → fare_order.ghosts.cmp d.0 e.0 ≡ Lower → RowBefore r s
    pair_before r s d e rd se dl el low =
        subst (λ (x : Fare). Less x.key.carrier.0 s.fare.key.carrier.0 ⊎ ((x.key.carrier ≡ s.fare.key.carrier) × Less x.key.basis.0 s.fare.key.basis.0)) (sym rd.fare_is)
        (subst (λ (y : Fare). Less d.1.key.carrier.0 y.key.carrier.0 ⊎ ((d.1.key.carrier ≡ y.key.carrier) × Less d.1.key.basis.0 y.key.basis.0)) (sym se.fare_is)
        (names_before d.1.key e.1.key (dl.from ∙ sym el.from) (dl.to ∙ sym el.to) (ap₂ fare_order.ghosts.cmp (sym dl.key) (sym el.key) ∙ low)))

    in_order : (rows : List SheetRow) (es : List (FareKey × Fare)) → ((e : FareKey × Fare) → IsIn e es → IsIn e entries) → Made rows es → IsStrictlySortedBy fare_order.ghosts.cmp (keys_of es) → EachPair RowBefore rows
    unfolding IsStrictlySortedBy
    in_order [] es sub made s = tt
    in_order (r ∷ []) es sub made s = tt
    in_order (r ∷ q ∷ rows) [] sub made s = absurd made
    in_order (r ∷ q ∷ rows) (d ∷ []) sub made s = absurd made.1
    in_order (r ∷ q ∷ rows) (d ∷ e ∷ es) sub made s = (
      pair_before r q d e made.0 made.1.0 (entry_lives d (sub d (inl refl))) (entry_lives e (sub e (inr (inl refl)))) s.0.0,
      in_order (q ∷ rows) (e ∷ es) (λ x i. sub x (inr i)) made.1 s.1,
    )

    all_live : (es : List (FareKey × Fare)) → ((e : FareKey × Fare) → IsIn e es → IsIn e entries) → Each (IsLive b) (keys_of es)
    all_live [] sub = tt
    all_live (e ∷ es) sub = (some_there (live_fare b e.0) e.1 (entry_lives e (sub e (inl refl))).live, all_live es (λ x i. sub x (inr i)))

    keys_length : (es : List (FareKey × Fare)) → length (keys_of es) ≡ length es
    keys_length [] = refl
    keys_length (e ∷ es) = ap suc (keys_length es)

    each_in : (rows : List SheetRow) (xs : List SheetRow) → Made rows entries → ((row : SheetRow) → IsIn row xs → IsIn row rows) → Each (λ row. (row.fare.key.from ≡ m.from) × (row.fare.key.to ≡ m.to)) xs
    each_in rows [] made sub = tt
    each_in rows (x ∷ xs) made sub = let lives = row_lives rows made x (sub x (inl refl)) in ((lives.filed_from, lives.filed_to), each_in rows xs made (λ row i. sub row (inr i)))

    pub is_sheet : (rows : List SheetRow) → Made rows entries → IsSheet m.from m.to rows
    is_sheet rows made = record {
      few = omega (arith, matched_length MadeOf rows entries made, keys_length entries, makes.ruled.few (length (keys_of entries)) (keys_of entries, refl, all_apart entries sorted, all_live entries (λ e i. i)));
      market = each_in rows rows made (λ row i. i);
      ascending = in_order rows entries (λ e i. i) made sorted;
    }

    pub sheet_made : (rows : List SheetRow) → Made rows entries → entries ≢ [] → SheetOf b m.from m.to (record { from = m.from; to = m.to; rows = rows })
    sheet_made rows made some = record {
      filed_from = refl;
      filed_to = refl;
      some = λ e. some (empty entries (subst (λ rs. Made rs entries) e made));
      ascending = in_order rows entries (λ e i. i) made sorted;
      live = λ row. (row_lives rows made row, lives_row rows made row);
    }
      where
        empty : (es : List (FareKey × Fare)) → Made [] es → es ≡ []
        empty [] made = refl
        empty (e ∷ es) made = absurd made
