-- Sheets that are put in place of what they were, and sheets that have a changed rule.
use Rattle.std.proofs.Common.{◌≡◌, ◌⊎◌, ◌||◌, Bool, true, false, cond, List, [], ◌∷◌, length, Option, Some, None, IsSome, IsTrue, option_map, is_some, refl, sym, ap, subst, ◌∙◌, inl, inr, arith}
use Rattle.std.specs.Arc.{arc_value}
use Rattle.std.specs.Cmp.{IsEquivalence}
use Rattle.std.specs.List.{list_any}
use Rattle.std.specs.Map.{lookup}
use Rattle.std.specs.Option.{MatchOption}
use Rattle.std.specs.declared.sync.Arc.{Arc}
use Rattle.std.proofs.lemmas.Bool.{cases_Bool, both_ways}
use Rattle.fare_law.specs.declared.fares.Fare.{Fare}
use Rattle.fare_law.specs.declared.fares.FareKey.{FareKey}
use Rattle.fare_law.specs.declared.rules.Rule.{Rule}
use Rattle.fare_law.specs.declared.sheets.SheetRow.{SheetRow}
use Rattle.fare_law.specs.Book.{Book, live_fare, live_rule}
use Rattle.fare_law.specs.Lists.{IsIn}
use Rattle.fare_law.specs.Sheets.{IsLiveRow, Sheet}
use Rattle.fare_book.specs.contracts.keys.MarketPartialEq.TheImpl as market
use Rattle.fare_book.specs.Keeping.{NoFare, RulesStand, sheet_at}
use Rattle.fare_book.specs.Keys.{same_market, same_rule}
use Rattle.fare_book.specs.Ready.{IsRight, MakesSheet, Ready}
use Rattle.fare_book.specs.Tables.{Fares, IsOldRow, LiveRules, MarketHolds, OldSheet, TableOf, Untouched, rule_of, fares_in}
use Rattle.fare_book.specs.declared.fare_table.FareTable.{FareTable}
use Rattle.fare_book.specs.declared.keys.Market.{Market}
use Rattle.fare_book.specs.declared.keys.RuleKey.{RuleKey}
use Rattle.fare_book.proofs.Finding.{flips}
use Rattle.fare_book.proofs.SameKeys.{market_tests_agree, same_markets_tell}
use Rattle.fare_book.proofs.TableRows.{in_market_is}

same_equivalence : IsEquivalence same_market
same_equivalence = record {
  refl = λ x. (same_markets_tell x x).1 refl;
  symm = flips same_market same_markets_tell;
  congr = λ x y z e. ap (λ w. same_market w z) ((same_markets_tell x y).0 e);
}

pub market_equivalence : IsEquivalence market.ghosts.eq
market_equivalence = subst IsEquivalence (sym market_tests_agree) same_equivalence

pub none_left : {X : Type 0} (xs : List X) → length xs ≡ 0 → xs ≡ []
none_left [] e = refl
none_left (x ∷ xs) e = absurd (omega (arith, e))

-- ---- from what is kept to the sheets of a book
sheet_right : (b : Book) (m : Market) (o : Option Sheet) → RulesStand b → Untouched (live_fare b) (live_rule b) [] m o → IsRight b m o
sheet_right b m None stand h = h
sheet_right b m (Some s) stand h = record {
  filed_from = h.filed_from;
  filed_to = h.filed_to;
  some = h.some;
  ascending = h.ascending;
  live = λ row. (λ i. live row (h.rows_are row i), λ l. listed row l);
}
  where
    no_change : (row : SheetRow) → (live_rule b row.fare.key.carrier row.fare.rule ≡ Some row.rule) ⊎ IsTrue false → live_rule b row.fare.key.carrier row.fare.rule ≡ Some row.rule
    no_change row (inl e) = e
    no_change row (inr e) = absurd (cc)

    live : (row : SheetRow) → IsOldRow (live_fare b) (live_rule b) [] m row → IsLiveRow b m.from m.to row
    live row r = record { filed_from = r.filed_from; filed_to = r.filed_to; fare = r.live; rule = no_change row r.rule_is }

    rules_one : (r s : Rule) → Some r ≡ Some s → r ≡ s
    rules_one r s e = cc

    whole : (r s : SheetRow) → r.fare ≡ s.fare → r.rule ≡ s.rule → r ≡ s
    whole r s f u = λ i. record { fare = f i; rule = u i }

    listed : (row : SheetRow) → IsLiveRow b m.from m.to row → IsIn row s.rows
    listed row l =
        let at = h.all row.fare.key row.fare l.fare l.filed_from l.filed_to in
        let is = live at.0 (h.rows_are at.0 at.1) in
        let rule : at.0.rule ≡ row.rule = rules_one at.0.rule row.rule (sym is.rule ∙ ap (λ (x : Fare). live_rule b x.key.carrier x.rule) at.2 ∙ l.rule) in
        subst (λ r. IsIn r s.rows) (whole at.0 row at.2 rule) at.1

pub none_right : (b : Book) (m : Market) (table : List (FareKey × Fare)) → table ≡ [] → TableOf (live_fare b) m table → NoFare b m.from m.to
none_right b m table e h key from to = sym (ap (λ t. cond t (live_fare b key) None) (in_market_is m key from to)) ∙ sym (h key) ∙ ap (lookup _) e

module _ {Z : Type 0} (b : Book) (sheets : List (Market × Arc Sheet Z)) (tables : List (Market × FareTable)) (rules : List (RuleKey × Rule)) (ready : Ready b sheets tables rules) where
  -- a market without a table
  pub untouched_right : (m : Market) → lookup (same_market m) tables ≡ None → IsRight b m (sheet_at sheets m)
  untouched_right m none = sheet_right b m (sheet_at sheets m) ready.ruled.stand (subst (λ o. MatchOption o (Untouched (live_fare b) (live_rule b) [] m (sheet_at sheets m)) (λ t. TableOf (live_fare b) m (fares_in t))) none (ready.markets m))

  -- a market with a table
  pub table_makes : (m : Market) (t : FareTable) → lookup (same_market m) tables ≡ Some t → MakesSheet b m (fares_in t) rules
  table_makes m t some = record {
    table_is = subst (λ o. MatchOption o (Untouched (live_fare b) (live_rule b) [] m (sheet_at sheets m)) (λ t. TableOf (live_fare b) m (fares_in t))) some (ready.markets m);
    ruled = ready.ruled;
  }

-- what is placed so far, where these tables are left
abbrev pub PlacedSo : {Z : Type 0} → Book → List (Market × Arc Sheet Z) → List (Market × FareTable) → Type 0
PlacedSo b sheets left = (m : Market) → lookup (same_market m) left ≡ None → IsRight b m (sheet_at sheets m)

pub placed_more : {Z : Type 0} (b : Book) (old new : List (Market × Arc Sheet Z)) (left rest : List (Market × FareTable)) (m : Market) (t : FareTable) → left ≡ (m, t) ∷ rest
    → IsRight b m (sheet_at new m) → ((n : Market) → same_market n m ≡ false → sheet_at new n ≡ sheet_at old n) → PlacedSo b old left → PlacedSo b new rest
placed_more b old new left rest m t is right others so n none = elim (cases_Bool (same_market n m)) [
  | inl s ↦ subst (λ x. IsRight b x (sheet_at new x)) (sym ((same_markets_tell n m).0 s)) right
  | inr s ↦ subst (IsRight b n) (sym (others n s)) (so n (ap (lookup (same_market n)) is ∙ ap (λ c. cond c (Some t) (lookup (same_market n) rest)) s ∙ none))
]

-- ---- sheets that have a changed rule
-- a row of a sheet without one is as the book has it
fresh_row : (fare : Fares) (rule : LiveRules) (changed : List RuleKey) (m : Market) (rows : List SheetRow) (row : SheetRow) → IsIn row rows → list_any (λ row. list_any (same_rule (rule_of row.fare)) changed) rows ≡ false → IsOldRow fare rule changed m row → IsOldRow fare rule [] m row
fresh_row fare rule changed m rows row i none h = record { filed_from = h.filed_from; filed_to = h.filed_to; live = h.live; rule_is = by h.rule_is }
  where
    stale : (xs : List SheetRow) → IsIn row xs → IsTrue (list_any (same_rule (rule_of row.fare)) changed) → list_any (λ row. list_any (same_rule (rule_of row.fare)) changed) xs ≡ true
    stale [] i t = absurd i
    stale (x ∷ xs) (inl s) t = ap (λ b. b || list_any (λ row. list_any (same_rule (rule_of row.fare)) changed) xs) (ap (λ (r : SheetRow). list_any (same_rule (rule_of r.fare)) changed) (sym s) ∙ t)
    stale (x ∷ xs) (inr i) t = ap (λ b. list_any (same_rule (rule_of x.fare)) changed || b) (stale xs i t) ∙ or_true (list_any (same_rule (rule_of x.fare)) changed)
      where
        or_true : (b : Bool) → (b || true) ≡ true
        or_true true = refl
        or_true false = refl

    by : (rule row.fare.key.carrier row.fare.rule ≡ Some row.rule) ⊎ IsTrue (list_any (same_rule (rule_of row.fare)) changed) → (rule row.fare.key.carrier row.fare.rule ≡ Some row.rule) ⊎ IsTrue false
    by (inl e) = inl e
    by (inr t) = absurd (both_ways _ none (stale rows i t))

fresh_sheet : (fare : Fares) (rule : LiveRules) (changed : List RuleKey) (m : Market) (s : Sheet) → list_any (λ row. list_any (same_rule (rule_of row.fare)) changed) s.rows ≡ false → OldSheet fare rule changed m s → OldSheet fare rule [] m s
fresh_sheet fare rule changed m s none h = record {
  filed_from = h.filed_from;
  filed_to = h.filed_to;
  some = h.some;
  ascending = h.ascending;
  rows_are = λ row i. fresh_row fare rule changed m s.rows row i none (h.rows_are row i);
  all = h.all;
}

module _ {Z : Type 0} (sheets : List (Market × Arc Sheet Z)) (changed : List RuleKey) where
  -- the market has a table, or a sheet without a changed rule
  abbrev pub Settled : List (Market × FareTable) → Market → Arc Sheet Z → Type 0
  Settled tables m s = IsSome (lookup (same_market m) tables) ⊎ (list_any (λ row. list_any (same_rule (rule_of row.fare)) changed) (arc_value s).rows ≡ false)

  -- each market that isn't left is settled
  abbrev pub SettledSo : List (Market × FareTable) → List (Market × Arc Sheet Z) → Type 0
  SettledSo tables left = (m : Market) (s : Arc Sheet Z) → lookup (same_market m) sheets ≡ Some s → lookup (same_market m) left ≡ None → Settled tables m s

  pub settled_more : (old new : List (Market × FareTable)) (left rest : List (Market × Arc Sheet Z)) (m : Market) (s : Arc Sheet Z) (stale : Bool) → left ≡ (m, s) ∷ rest → lookup (same_market m) sheets ≡ Some s
      → stale ≡ list_any (λ row. list_any (same_rule (rule_of row.fare)) changed) (arc_value s).rows → (stale ≡ true → IsSome (lookup (same_market m) new)) → ((n : Market) → IsSome (lookup (same_market n) old) → IsSome (lookup (same_market n) new))
      → SettledSo old left → SettledSo new rest
  settled_more old new left rest m s stale is found told touched stay so n t has none = elim (cases_Bool (same_market n m)) [
    | inl e ↦ here n t has ((same_markets_tell n m).0 e)
    | inr e ↦ kept n t (so n t has (ap (lookup (same_market n)) is ∙ ap (λ c. cond c (Some s) (lookup (same_market n) rest)) e ∙ none))
  ]
    where
      one : (a c : Arc Sheet Z) → Some a ≡ Some c → a ≡ c
      one a c e = cc

      kept : (n : Market) (t : Arc Sheet Z) → Settled old n t → Settled new n t
      kept n t (inl h) = inl (stay n h)
      kept n t (inr h) = inr h

      here : (n : Market) (t : Arc Sheet Z) → lookup (same_market n) sheets ≡ Some t → n ≡ m → Settled new n t
      here n t has e = elim (cases_Bool stale) [
        | inl h ↦ inl (subst (λ x. IsSome (lookup (same_market x) new)) (sym e) (touched h))
        | inr h ↦ inr (ap (λ (a : Arc Sheet Z). list_any (λ row. list_any (same_rule (rule_of row.fare)) changed) (arc_value a).rows) (one t s (sym has ∙ ap (λ x. lookup (same_market x) sheets) e ∙ found)) ∙ sym told ∙ h)
      ]

  pub settled_all : (fare : Fares) (rule : LiveRules) (tables : List (Market × FareTable)) → ((m : Market) → MarketHolds fare rule changed sheets tables m) → SettledSo tables [] → (m : Market) → MarketHolds fare rule [] sheets tables m
  settled_all fare rule tables holds so m = by (lookup (same_market m) tables) refl (holds m)
    where
      sheet : (o : Option (Arc Sheet Z)) → lookup (same_market m) sheets ≡ o → lookup (same_market m) tables ≡ None → Untouched fare rule changed m (option_map arc_value o) → Untouched fare rule [] m (option_map arc_value o)
      sheet None e none h = h
      sheet (Some s) e none h = elim (so m s e refl) [
        | inl t ↦ absurd (not_some (lookup (same_market m) tables) none t)
        | inr t ↦ fresh_sheet fare rule changed m (arc_value s) t h
      ]
        where
          not_some : {A : Type 0} (o : Option A) → o ≡ None → IsSome o → ⊥
          not_some None e s = cc
          not_some (Some x) e s = cc

      by : (o : Option FareTable) → lookup (same_market m) tables ≡ o → MatchOption o (Untouched fare rule changed m (sheet_at sheets m)) (λ t. TableOf fare m (fares_in t)) → MatchOption o (Untouched fare rule [] m (sheet_at sheets m)) (λ t. TableOf fare m (fares_in t))
      by None e h = sheet (lookup (same_market m) sheets) refl e h
      by (Some t) e h = h

-- ---- a market that is touched
module _ (old mid new : List (Market × FareTable)) (k : Market) (t : FareTable) (others : (m : Market) → same_market m k ≡ false → lookup (same_market m) mid ≡ lookup (same_market m) old)
    (puts : (m : Market) → lookup (same_market m) new ≡ cond (same_market m k) (Some t) (lookup (same_market m) mid)) where
  pub touched_holds : {Z : Type 0} (fare : Fares) (rule : LiveRules) (changed : List RuleKey) (sheets : List (Market × Arc Sheet Z)) → TableOf fare k (fares_in t) → ((m : Market) → MarketHolds fare rule changed sheets old m) → (m : Market) → MarketHolds fare rule changed sheets new m
  touched_holds fare rule changed sheets table holds m = elim (cases_Bool (same_market m k)) [
    | inl s ↦
        subst (λ o. MatchOption o (Untouched fare rule changed m (sheet_at sheets m)) (λ t. TableOf fare m (fares_in t))) (sym (puts m ∙ ap (λ b. cond b (Some t) (lookup (same_market m) mid)) s))
        (subst (λ x. TableOf fare x (fares_in t)) (sym ((same_markets_tell m k).0 s)) table)
    | inr s ↦
        subst (λ o. MatchOption o (Untouched fare rule changed m (sheet_at sheets m)) (λ t. TableOf fare m (fares_in t))) (sym (puts m ∙ ap (λ b. cond b (Some t) (lookup (same_market m) mid)) s ∙ others m s)) (holds m)
  ]

  pub touched_stays : (m : Market) → IsSome (lookup (same_market m) old) → IsSome (lookup (same_market m) new)
  touched_stays m h = elim (cases_Bool (same_market m k)) [
    | inl s ↦ ap is_some (puts m ∙ ap (λ b. cond b (Some t) (lookup (same_market m) mid)) s)
    | inr s ↦ subst IsSome (sym (puts m ∙ ap (λ b. cond b (Some t) (lookup (same_market m) mid)) s ∙ others m s)) h
  ]

-- ---- a sheet that is put or taken away
module _ {Z : Type 0} (old new : List (Market × Arc Sheet Z)) (m : Market) (w : Option (Arc Sheet Z)) (puts : (n : Market) → lookup (same_market n) new ≡ cond (same_market n m) w (lookup (same_market n) old)) where
  pub sheet_here : sheet_at new m ≡ option_map arc_value w
  sheet_here = ap (option_map arc_value) (puts m ∙ ap (λ t. cond t w (lookup (same_market m) old)) ((same_markets_tell m m).1 refl))

  pub sheet_else : (n : Market) → same_market n m ≡ false → sheet_at new n ≡ sheet_at old n
  sheet_else n apart = ap (option_map arc_value) (puts n ∙ ap (λ t. cond t w (lookup (same_market n) old)) apart)

pub none_has : {A G : Type 0} (o : Option A) (x : A) → o ≡ None → o ≡ Some x → G
none_has None x e s = absurd (cc)
none_has (Some y) x e s = absurd (cc)
