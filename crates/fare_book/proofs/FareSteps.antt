-- The live fares, as one comes or goes: what names each rule, and the markets.
use Rattle.std.proofs.Common.{◌≡◌, ◌⊎◌, ◌≤◌, ◌+◌, ◌-◌, ℕ, Bool, true, false, cond, List, [], ◌∷◌, Option, Some, None, refl, sym, ap, subst, ◌∙◌, inl, inr, arith}
use Rattle.std.specs.Map.{lookup}
use Rattle.std.specs.Option.{MatchOption}
use Rattle.std.specs.declared.sync.Arc.{Arc}
use Rattle.std.proofs.lemmas.Bool.{both_ways, cases_Bool}
use Rattle.fare_law.specs.declared.fares.Fare.{Fare}
use Rattle.fare_law.specs.declared.fares.FareKey.{FareKey}
use Rattle.fare_law.specs.Book.{same_key}
use Rattle.fare_law.specs.Sheets.{Sheet}
use Rattle.fare_book.specs.Counts.{Exactly}
use Rattle.fare_book.specs.Keeping.{sheet_at}
use Rattle.fare_book.specs.Keys.{same_market, same_rule}
use Rattle.fare_book.specs.Tables.{AreKeyed, Changes, Fares, LiveRules, MarketHolds, NamesRule, TableOf, Untouched, in_market, rule_of, fares_in}
use Rattle.fare_book.specs.declared.fare_table.FareTable.{FareTable}
use Rattle.fare_book.specs.declared.keys.Market.{Market}
use Rattle.fare_book.specs.declared.keys.RuleKey.{RuleKey}
use Rattle.fare_book.proofs.Counting.{count_less, count_more, count_same}
use Rattle.fare_book.proofs.SameKeys.{same_fares_tell, same_markets_tell, same_rules_tell}
use Rattle.fare_book.proofs.TableRows.{in_market_is, in_market_tells}
use Rattle.fare_book.proofs.Updates.{at_key, either}

clash : {G : Type 0} (o : Option Fare) (x : Fare) → o ≡ None → o ≡ Some x → G
clash None x e s = absurd (cc)
clash (Some y) x e s = absurd (cc)

same_some : (o : Option Fare) (x y : Fare) → o ≡ Some x → o ≡ Some y → x ≡ y
same_some o x y e s = one (sym e ∙ s)
  where
    one : Some x ≡ Some y → x ≡ y
    one e = cc

module _ (f g : Fares) (k : FareKey) where
  -- a fare goes
  module _ (o : Fare) (was : f k ≡ Some o) (key : k ≡ o.key) (step : (q : FareKey) → g q ≡ cond (same_key q k) None (f q)) where
    to_old : (r : RuleKey) (q : FareKey) → NamesRule g r q → NamesRule f r q
    to_old r q (x, l, c, n) = elim (either same_key same_fares_tell f g k None step q) [
      | inl e ↦ clash (g q) x (ap g e ∙ at_key same_key same_fares_tell f g k None step) l
      | inr e ↦ (x, sym e ∙ l, c, n)
    ]

    to_new : (r : RuleKey) (q : FareKey) → NamesRule f r q → (q ≡ k) ⊎ NamesRule g r q
    to_new r q (x, l, c, n) = elim (either same_key same_fares_tell f g k None step q) [
      | inl e ↦ inl e
      | inr e ↦ inr (x, e ∙ l, c, n)
    ]

    gone : (r : RuleKey) → NamesRule g r k → ⊥
    gone r (x, l, c, n) = clash (g k) x (at_key same_key same_fares_tell f g k None step) l

    pub use_less : (u v : RuleKey → ℕ) → ((r : RuleKey) → v r ≡ cond (same_rule r (rule_of o)) (u (rule_of o) - 1) (u r)) → ((r : RuleKey) → Exactly (u r) (NamesRule f r)) → (r : RuleKey) → Exactly (v r) (NamesRule g r)
    use_less u v is all r = elim (cases_Bool (same_rule r (rule_of o))) [
      | inl t ↦
          let e : r ≡ rule_of o = (same_rules_tell r (rule_of o)).0 t in
          let counts : v r ≡ u r - 1 = is r ∙ ap (λ b. cond b (u (rule_of o) - 1) (u r)) t ∙ ap (λ x. u x - 1) (sym e) in
          let named : NamesRule f r k = (o, was, ap (λ (x : FareKey). x.carrier) key ∙ ap (λ (x : RuleKey). x.carrier) (sym e), ap (λ (x : RuleKey). x.number) (sym e)) in
          let some : 1 ≤ u r = (all r).most 1 (k ∷ [], refl, (tt, tt), (named, tt)) in
          subst (λ n. Exactly n (NamesRule g r)) (sym counts) (count_less (NamesRule f r) (NamesRule g r) k (u r) (to_old r) named (gone r) (to_new r) (all r) (u r - 1) (omega (arith, some)))
      | inr t ↦
          let counts : v r ≡ u r = is r ∙ ap (λ b. cond b (u (rule_of o) - 1) (u r)) t in
          subst (λ n. Exactly n (NamesRule g r)) (sym counts) (count_same (NamesRule f r) (NamesRule g r) (λ q h. other r t q h (to_new r q h)) (to_old r) (u r) (all r))
    ]
      where
        other : (r : RuleKey) → same_rule r (rule_of o) ≡ false → (q : FareKey) → NamesRule f r q → (q ≡ k) ⊎ NamesRule g r q → NamesRule g r q
        other r t q h (inr x) = x
        other r t q (x, l, c, n) (inl e) =
            let one : x ≡ o = same_some (f k) x o (ap f (sym e) ∙ l) was in
            absurd (both_ways (same_rule r (rule_of o)) t ((same_rules_tell r (rule_of o)).1 (whole r (rule_of o) (sym c ∙ ap (λ (y : FareKey). y.carrier) (e ∙ key)) (sym n ∙ ap (λ (y : Fare). y.rule) one))))
          where
            whole : (a b : RuleKey) → a.carrier ≡ b.carrier → a.number ≡ b.number → a ≡ b
            whole a b c n = λ i. record { carrier = c i; number = n i }

  -- a fare comes
  module _ (x : Fare) (none : f k ≡ None) (key : k ≡ x.key) (step : (q : FareKey) → g q ≡ cond (same_key q k) (Some x) (f q)) where
    stays : (r : RuleKey) (q : FareKey) → NamesRule f r q → NamesRule g r q
    stays r q (y, l, c, n) = elim (either same_key same_fares_tell f g k (Some x) step q) [
      | inl e ↦ clash (f k) y none (ap f (sym e) ∙ l)
      | inr e ↦ (y, e ∙ l, c, n)
    ]

    back : (r : RuleKey) (q : FareKey) → NamesRule g r q → (q ≡ k) ⊎ NamesRule f r q
    back r q (y, l, c, n) = elim (either same_key same_fares_tell f g k (Some x) step q) [
      | inl e ↦ inl e
      | inr e ↦ inr (y, sym e ∙ l, c, n)
    ]

    pub use_more : (u v : RuleKey → ℕ) → ((r : RuleKey) → v r ≡ cond (same_rule r (rule_of x)) (u (rule_of x) + 1) (u r)) → ((r : RuleKey) → Exactly (u r) (NamesRule f r)) → (r : RuleKey) → Exactly (v r) (NamesRule g r)
    use_more u v is all r = elim (cases_Bool (same_rule r (rule_of x))) [
      | inl t ↦
          let e : r ≡ rule_of x = (same_rules_tell r (rule_of x)).0 t in
          let counts : v r ≡ u r + 1 = is r ∙ ap (λ b. cond b (u (rule_of x) + 1) (u r)) t ∙ ap (λ y. u y + 1) (sym e) in
          let named : NamesRule g r k = (x, at_key same_key same_fares_tell f g k (Some x) step, ap (λ (y : FareKey). y.carrier) key ∙ ap (λ (y : RuleKey). y.carrier) (sym e), ap (λ (y : RuleKey). y.number) (sym e)) in
          subst (λ n. Exactly n (NamesRule g r)) (sym counts) (count_more (NamesRule f r) (NamesRule g r) k (u r) (stays r) named (λ h. clash (f k) h.0 none h.1) (back r) (all r))
      | inr t ↦
          let counts : v r ≡ u r = is r ∙ ap (λ b. cond b (u (rule_of x) + 1) (u r)) t in
          subst (λ n. Exactly n (NamesRule g r)) (sym counts) (count_same (NamesRule f r) (NamesRule g r) (stays r) (λ q h. other r t q h (back r q h)) (u r) (all r))
    ]
      where
        other : (r : RuleKey) → same_rule r (rule_of x) ≡ false → (q : FareKey) → NamesRule g r q → (q ≡ k) ⊎ NamesRule f r q → NamesRule f r q
        other r t q h (inr y) = y
        other r t q (y, l, c, n) (inl e) =
            let one : y ≡ x = same_some (g k) y x (ap g (sym e) ∙ l) (at_key same_key same_fares_tell f g k (Some x) step) in
            absurd (both_ways (same_rule r (rule_of x)) t ((same_rules_tell r (rule_of x)).1 (whole r (rule_of x) (sym c ∙ ap (λ (z : FareKey). z.carrier) (e ∙ key)) (sym n ∙ ap (λ (z : Fare). z.rule) one))))
          where
            whole : (a b : RuleKey) → a.carrier ≡ b.carrier → a.number ≡ b.number → a ≡ b
            whole a b c n = λ i. record { carrier = c i; number = n i }

-- ---- markets
module _ {Z : Type 0} (f g : Fares) (rule : LiveRules) (changed : List RuleKey) (sheets : List (Market × Arc Sheet Z)) where
  sheet_stays : (m : Market) (o : Option Sheet) → ((q : FareKey) → q.from ≡ m.from → q.to ≡ m.to → g q ≡ f q) → Untouched f rule changed m o → Untouched g rule changed m o
  sheet_stays m None agree h = λ key a b. agree key a b ∙ h key a b
  sheet_stays m (Some s) agree h = record {
    filed_from = h.filed_from;
    filed_to = h.filed_to;
    some = h.some;
    ascending = h.ascending;
    rows_are = λ row i. let r = h.rows_are row i in record { filed_from = r.filed_from; filed_to = r.filed_to; live = agree row.fare.key r.filed_from r.filed_to ∙ r.live; rule_is = r.rule_is };
    all = λ key x l a b. h.all key x (sym (agree key a b) ∙ l) a b;
  }

  table_stays : (m : Market) (t : List (FareKey × Fare)) → ((q : FareKey) → q.from ≡ m.from → q.to ≡ m.to → g q ≡ f q) → TableOf f m t → TableOf g m t
  table_stays m t agree h key = h key ∙ by (in_market m key) refl
    where
      by : (b : Bool) → in_market m key ≡ b → cond b (f key) None ≡ cond b (g key) None
      by true e = let told = in_market_tells m key e in sym (agree key told.0 told.1)
      by false e = refl

  market_stays : (m : Market) (o : Option FareTable) → ((q : FareKey) → q.from ≡ m.from → q.to ≡ m.to → g q ≡ f q)
      → MatchOption o (Untouched f rule changed m (sheet_at sheets m)) (λ t. TableOf f m (fares_in t)) → MatchOption o (Untouched g rule changed m (sheet_at sheets m)) (λ t. TableOf g m (fares_in t))
  market_stays m None agree h = sheet_stays m (sheet_at sheets m) agree h
  market_stays m (Some t) agree h = table_stays m (fares_in t) agree h

  -- the market of one key has a new table
  pub markets_step : (k : FareKey) (w : Option Fare) (step : (q : FareKey) → g q ≡ cond (same_key q k) w (f q)) (m : Market) → m.from ≡ k.from → m.to ≡ k.to
      → (old new : List (Market × FareTable)) (t : FareTable) → TableOf g m (fares_in t) → ((n : Market) → lookup (same_market n) new ≡ cond (same_market n m) (Some t) (lookup (same_market n) old))
      → ((n : Market) → same_market n m ≡ false → MarketHolds f rule changed sheets old n) → (n : Market) → MarketHolds g rule changed sheets new n
  markets_step k w step m from to old new t table puts all n = elim (cases_Bool (same_market n m)) [
    | inl s ↦
        let e : n ≡ m = (same_markets_tell n m).0 s in
        subst (λ x. MatchOption x (Untouched g rule changed n (sheet_at sheets n)) (λ t. TableOf g n (fares_in t))) (sym (puts n ∙ ap (λ b. cond b (Some t) (lookup (same_market n) old)) s)) (subst (λ x. TableOf g x (fares_in t)) (sym e) table)
    | inr s ↦
        subst (λ x. MatchOption x (Untouched g rule changed n (sheet_at sheets n)) (λ t. TableOf g n (fares_in t))) (sym (puts n ∙ ap (λ b. cond b (Some t) (lookup (same_market n) old)) s))
        (market_stays n (lookup (same_market n) old) (λ q a b. agree n s q a b (either same_key same_fares_tell f g k w step q)) (all n s))
  ]
    where
      whole : (a b : Market) → a.from ≡ b.from → a.to ≡ b.to → a ≡ b
      whole a b c n = λ i. record { from = c i; to = n i }

      agree : (n : Market) → same_market n m ≡ false → (q : FareKey) → q.from ≡ n.from → q.to ≡ n.to → (q ≡ k) ⊎ (g q ≡ f q) → g q ≡ f q
      agree n s q a b (inr e) = e
      agree n s q a b (inl e) =
          absurd (both_ways (same_market n m) s ((same_markets_tell n m).1 (whole n m (sym a ∙ ap (λ (x : FareKey). x.from) e ∙ sym from) (sym b ∙ ap (λ (x : FareKey). x.to) e ∙ sym to))))

-- a table of a market, changed at a key of it
pub table_step : (f g : Fares) (k : FareKey) (w : Option Fare) → ((q : FareKey) → g q ≡ cond (same_key q k) w (f q)) → (m : Market) → m.from ≡ k.from → m.to ≡ k.to
    → (old new : List (FareKey × Fare)) → ((q : FareKey) → lookup (same_key q) new ≡ cond (same_key q k) w (lookup (same_key q) old)) → TableOf f m old → TableOf g m new
table_step f g k w step m from to old new puts table q = puts q ∙ ap (cond (same_key q k) w) (table q) ∙ by (same_key q k) refl ∙ ap (λ o. cond (in_market m q) o None) (sym (step q))
  where
    by : (b : Bool) → same_key q k ≡ b → cond b w (cond (in_market m q) (f q) None) ≡ cond (in_market m q) (cond b w (f q)) None
    by true e =
        let one : q ≡ k = (same_fares_tell q k).0 e in
        sym (ap (λ t. cond t w None) (in_market_is m q (ap (λ (x : FareKey). x.from) one ∙ sym from) (ap (λ (x : FareKey). x.to) one ∙ sym to)))
    by false e = refl

-- what the table has of the key
pub table_has : (f : Fares) (m : Market) (table : List (FareKey × Fare)) (k : FareKey) → m.from ≡ k.from → m.to ≡ k.to → TableOf f m table → lookup (same_key k) table ≡ f k
table_has f m table k from to h = h k ∙ ap (λ t. cond t (f k) None) (in_market_is m k (sym from) (sym to))

-- a table is taken out, changed and put back
pub changes_from : {Z : Type 0} (sheets : List (Market × Arc Sheet Z)) (old mid new : List (Market × FareTable)) (key : FareKey) (after was : Option Fare) (market : Market) (t : List (FareKey × Fare)) (changed_t : FareTable)
    → market ≡ record { from = key.from; to = key.to }
    → ((fare : Fares) (rule : LiveRules) (changed : List RuleKey) → AreKeyed fare → MarketHolds fare rule changed sheets old market → TableOf fare market t)
    → ((m : Market) → same_market m market ≡ false → lookup (same_market m) mid ≡ lookup (same_market m) old)
    → was ≡ lookup (same_key key) t
    → ((q : FareKey) → lookup (same_key q) (fares_in changed_t) ≡ cond (same_key q key) after (lookup (same_key q) t))
    → ((n : Market) → lookup (same_market n) new ≡ cond (same_market n market) (Some changed_t) (lookup (same_market n) mid))
    → Changes sheets old new key after was
changes_from {Z = Z} sheets old mid new key after was market t changed_t is table others told puts puts_back f g rule changed keyed holds step =
    let from : market.from ≡ key.from = ap (λ (m : Market). m.from) is in
    let to : market.to ≡ key.to = ap (λ (m : Market). m.to) is in
    let had : TableOf f market t = table f rule changed keyed (holds market) in (
      told ∙ table_has f market t key from to had,
      markets_step f g rule changed sheets key after step market from to mid new changed_t (table_step f g key after step market from to t (fares_in changed_t) puts had) puts_back
          (λ n apart. subst (λ o. MatchOption o (Untouched f rule changed n (sheet_at sheets n)) (λ t. TableOf f n (fares_in t))) (sym (others n apart)) (holds n)),
    )

-- a table is changed where it stands
pub changes_within : {Z : Type 0} (sheets : List (Market × Arc Sheet Z)) (old new : List (Market × FareTable)) (key : FareKey) (after was : Option Fare) (market : Market) (t changed_t : FareTable)
    → market ≡ record { from = key.from; to = key.to }
    → lookup (same_market market) old ≡ Some t
    → was ≡ lookup (same_key key) (fares_in t)
    → ((q : FareKey) → lookup (same_key q) (fares_in changed_t) ≡ cond (same_key q key) after (lookup (same_key q) (fares_in t)))
    → ((n : Market) → lookup (same_market n) new ≡ cond (same_market n market) (Some changed_t) (lookup (same_market n) old))
    → Changes sheets old new key after was
changes_within sheets old new key after was market t changed_t is here told puts puts_back =
    changes_from sheets old old new key after was market (fares_in t) changed_t is
    (λ fare rule changed keyed holds. subst (λ o. MatchOption o (Untouched fare rule changed market (sheet_at sheets market)) (λ t. TableOf fare market (fares_in t))) here holds)
    (λ m apart. refl) told puts puts_back
