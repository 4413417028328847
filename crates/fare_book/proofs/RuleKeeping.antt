-- What a draft keeps of the rules, as one is put or dropped.
use Rattle.std.proofs.Common.{◌≡◌, ◌≢◌, ◌⊎◌, ◌≤◌, ◌<◌, ◌+◌, ◌-◌, ◌==◌, ◌&&◌, ℕ, Bool, true, false, cond, List, [], ◌∷◌, Option, Some, None, Decides, IsSome, IsTrue, is_some, refl, sym, ap, subst, ◌∙◌, inl, inr, arith}
use Rattle.std.specs.List.{list_any}
use Rattle.std.specs.Map.{lookup}
use Rattle.std.specs.Option.{MatchOption}
use Rattle.std.specs.declared.sync.Arc.{Arc}
use Rattle.std.proofs.lemmas.Bool.{cases_Bool, false_from_ne_true}
use Rattle.std.proofs.lemmas.Bool.Decides.{Decides-and, Decides-eqb, Decides-like}
use Rattle.fare_law.specs.declared.fares.Fare.{Fare}
use Rattle.fare_law.specs.declared.fares.FareKey.{FareKey}
use Rattle.fare_law.specs.declared.names.Carrier.{Carrier}
use Rattle.fare_law.specs.declared.rules.Rule.{Rule}
use Rattle.fare_law.specs.declared.sheets.SheetRow.{SheetRow}
use Rattle.fare_law.specs.Book.{Book, free_rule, live_rule, same_carrier}
use Rattle.fare_law.specs.FilingLimits.{IsRuleNumber}
use Rattle.fare_law.specs.Sheets.{Sheet}
use Rattle.fare_book.specs.contracts.keys.RuleKeyPartialEq.TheImpl as rule_test
use Rattle.fare_book.specs.Counts.{Exactly}
use Rattle.fare_book.specs.Drafts.{FaresKept, RulesKept, Stand}
use Rattle.fare_book.specs.Keeping.{Rules, rule_at, sheet_at}
use Rattle.fare_book.specs.Keys.{same_market, same_rule}
use Rattle.fare_book.specs.Tables.{Fares, IsOldRow, LiveRules, NamesRule, TableOf, Untouched, rule_of, fares_in}
use Rattle.fare_book.specs.declared.fare_table.FareTable.{FareTable}
use Rattle.fare_book.specs.declared.keys.Market.{Market}
use Rattle.fare_book.specs.declared.keys.RuleKey.{RuleKey}
use Rattle.fare_law.specs.declared.limits.TheConstants.{MOST_RULES}
use Rattle.fare_book.proofs.Counting.{count_same}
use Rattle.fare_book.proofs.Finding.{rule_found}
use Rattle.fare_book.proofs.Following.{rule_free}
use Rattle.fare_book.proofs.SameKeys.{same_carriers_tell, same_rules_tell}
use Rattle.fare_book.proofs.Updates.{count_gone, count_new, count_old}
use Rattle.law_lemmas.proofs.Options.{some_there}

-- ---- whether a rule is live
pub rule_zero : (b : Book) (c : Carrier) (n : ℕ) → n ≡ 0 → IsSome (live_rule b c n)
rule_zero b c n z = some_there (live_rule b c n) free_rule (ap (live_rule b c) z ∙ rule_free b c)

pub known_rule : (b : Book) (rules : List (RuleKey × Rule)) (k : RuleKey) (t : Bool) → t ≡ is_some (lookup (rule_test.ghosts.eq k) rules) → k.number ≢ 0 → Rules b rules
    → (IsTrue t → IsSome (live_rule b k.carrier k.number)) × (IsSome (live_rule b k.carrier k.number) → IsTrue t)
known_rule b rules k t e n r = (λ h. sym told ∙ h, λ h. told ∙ h)
  where
    told : t ≡ is_some (live_rule b k.carrier k.number)
    told = e ∙ ap is_some (rule_found rules k) ∙ ap is_some (r k n)

-- ---- the rules, as one changes
abbrev named : Carrier → ℕ → Carrier → ℕ → Bool
named k m c n = cond (n == 0) false (same_carrier c k && (n == m))

zero_is : (n : ℕ) → n ≡ 0 → (n == 0) ≡ true
zero_is n z = (Decides-eqb n 0).1 z

not_zero : (n : ℕ) → n ≢ 0 → (n == 0) ≡ false
not_zero n h = false_from_ne_true (n == 0) (λ t. h ((Decides-eqb n 0).0 t))

pub named_is : (k : Carrier) (m : ℕ) (c : Carrier) (n : ℕ) → n ≢ 0 → named k m c n ≡ same_rule (record { carrier = c; number = n }) (record { carrier = k; number = m })
named_is k m c n h = ap (λ z. cond z false (same_carrier c k && (n == m))) (not_zero n h)

-- a rule that isn't 0, by its pair
abbrev nonzero : LiveRules → (Carrier × ℕ) → Option Rule
nonzero rule p = cond (p.1 == 0) None (rule p.0 p.1)

abbrev same_pair : (Carrier × ℕ) → (Carrier × ℕ) → Bool
same_pair p q = same_carrier p.0 q.0 && (p.1 == q.1)

pair_whole : (p q : Carrier × ℕ) → p.0 ≡ q.0 → p.1 ≡ q.1 → p ≡ q
pair_whole p q c n = λ i. (c i, n i)

pairs_tell : (p q : Carrier × ℕ) → Decides (same_pair p q) (p ≡ q)
pairs_tell p q = Decides-like _ (λ e. pair_whole p q e.0 e.1) (λ e. (ap (λ x. x.0) e, ap (λ x. x.1) e)) (Decides-and _ _ (same_carriers_tell p.0 q.0) (Decides-eqb p.1 q.1))

to_pair : (rule : LiveRules) (p : Carrier × ℕ) → (p.1 ≢ 0) × IsSome (rule p.0 p.1) → IsSome (nonzero rule p)
to_pair rule p h = ap (λ z. is_some (cond z None (rule p.0 p.1))) (not_zero p.1 h.0) ∙ h.1

from_pair : (rule : LiveRules) (p : Carrier × ℕ) → IsSome (nonzero rule p) → (p.1 ≢ 0) × IsSome (rule p.0 p.1)
from_pair rule p h = (λ z. clash (sym (ap (λ t. is_some (cond t None (rule p.0 p.1))) (zero_is p.1 z)) ∙ h), by (p.1 == 0) h)
  where
    clash : false ≡ true → ⊥
    clash e = cc

    by : (t : Bool) → is_some (cond t None (rule p.0 p.1)) ≡ true → IsSome (rule p.0 p.1)
    by true h = absurd (cc)
    by false h = h

module _ (f g : LiveRules) (k : Carrier) (m : ℕ) (w : Option Rule) (proper : m ≢ 0) (step : (c : Carrier) (n : ℕ) → g c n ≡ cond (named k m c n) w (f c n)) where
  pair_step : (p : Carrier × ℕ) → nonzero g p ≡ cond (same_pair p (k, m)) w (nonzero f p)
  pair_step p = elim (cases_Bool (p.1 == 0)) [
    | inl z ↦
        let apart : same_pair p (k, m) ≡ false = false_from_ne_true (same_pair p (k, m)) (λ t. proper (sym (ap (λ x. x.1) ((pairs_tell p (k, m)).0 t)) ∙ (Decides-eqb p.1 0).0 z)) in
        ap (λ t. cond t None (g p.0 p.1)) z ∙ sym (ap (λ t. cond t w (nonzero f p)) apart ∙ ap (λ t. cond t None (f p.0 p.1)) z)
    | inr z ↦
        ap (λ t. cond t None (g p.0 p.1)) z ∙ step p.0 p.1 ∙ ap (λ t. cond (cond t false (same_pair p (k, m))) w (f p.0 p.1)) z
        ∙ sym (ap (λ t. cond (same_pair p (k, m)) w (cond t None (f p.0 p.1))) z)
  ]

  -- the rule of the key, and of each other one
  pub rule_here : g k m ≡ w
  rule_here = step k m ∙ ap (λ t. cond t w (f k m)) (named_is k m k m proper ∙ (same_rules_tell (record { carrier = k; number = m }) (record { carrier = k; number = m })).1 refl)

  pub rule_else : (c : Carrier) (n : ℕ) → same_rule (record { carrier = c; number = n }) (record { carrier = k; number = m }) ≡ false → g c n ≡ f c n
  rule_else c n apart = elim (cases_Bool (n == 0)) [
    | inl z ↦ step c n ∙ ap (λ t. cond (cond t false (same_carrier c k && (n == m))) w (f c n)) z
    | inr z ↦ step c n ∙ ap (λ t. cond (cond t false (same_carrier c k && (n == m))) w (f c n)) z ∙ ap (λ t. cond t w (f c n)) apart
  ]

  free_stays : ((c : Carrier) → f c 0 ≡ Some free_rule) → (c : Carrier) → g c 0 ≡ Some free_rule
  free_stays h c = step c 0 ∙ h c

  rules_held : (old new : List (RuleKey × Rule)) → ((q : RuleKey) → rule_at new q ≡ cond (same_rule q (record { carrier = k; number = m })) w (rule_at old q))
      → ((q : RuleKey) → q.number ≢ 0 → rule_at old q ≡ f q.carrier q.number) → (q : RuleKey) → q.number ≢ 0 → rule_at new q ≡ g q.carrier q.number
  rules_held old new puts h q n =
      puts q ∙ ap (cond (same_rule q (record { carrier = k; number = m })) w) (h q n) ∙ sym (step q.carrier q.number ∙ ap (λ t. cond t w (f q.carrier q.number)) (named_is k m q.carrier q.number n))

  pairs_kept : (count : ℕ) → Exactly count (λ (p : Carrier × ℕ). (p.1 ≢ 0) × IsSome (f p.0 p.1)) → Exactly count (λ p. IsSome (nonzero f p))
  pairs_kept count c = count_same (λ (p : Carrier × ℕ). (p.1 ≢ 0) × IsSome (f p.0 p.1)) (λ p. IsSome (nonzero f p)) (to_pair f) (from_pair f) count c

  pairs_back : (count : ℕ) → Exactly count (λ p. IsSome (nonzero g p)) → Exactly count (λ (p : Carrier × ℕ). (p.1 ≢ 0) × IsSome (g p.0 p.1))
  pairs_back count c = count_same (λ p. IsSome (nonzero g p)) (λ (p : Carrier × ℕ). (p.1 ≢ 0) × IsSome (g p.0 p.1)) (from_pair g) (to_pair g) count c

  here_pair : (o : Option Rule) → f k m ≡ o → nonzero f (k, m) ≡ o
  here_pair o e = ap (λ t. cond t None (f k m)) (not_zero m proper) ∙ e

  module _ (old new : List (RuleKey × Rule)) (puts : (q : RuleKey) → rule_at new q ≡ cond (same_rule q (record { carrier = k; number = m })) w (rule_at old q)) (count : ℕ) (kept : RulesKept f old count) where
    pub rules_new : (r : Rule) → w ≡ Some r → f k m ≡ None → count < MOST_RULES → RulesKept g new (count + 1)
    rules_new r e none room = record {
      rules_are = rules_held old new puts kept.rules_are;
      counted = pairs_back (count + 1) (count_new same_pair pairs_tell (nonzero f) (nonzero g) (k, m) w pair_step r count e (here_pair None none) (pairs_kept count kept.counted));
      few = omega (arith, room);
      free = free_stays kept.free;
    }

    pub rules_old : (r o : Rule) → w ≡ Some r → f k m ≡ Some o → RulesKept g new count
    rules_old r o e was = record {
      rules_are = rules_held old new puts kept.rules_are;
      counted = pairs_back count (count_old same_pair pairs_tell (nonzero f) (nonzero g) (k, m) w pair_step r o count e (here_pair (Some o) was) (pairs_kept count kept.counted));
      few = kept.few;
      free = free_stays kept.free;
    }

    pub rules_gone : (o : Rule) → w ≡ None → f k m ≡ Some o → RulesKept g new (count - 1)
    rules_gone o e was =
        let live : (m ≢ 0) × IsSome (f k m) = (proper, some_there (f k m) o was) in
        let some : 1 ≤ count = kept.counted.most 1 ((k, m) ∷ [], refl, (tt, tt), (live, tt)) in
        record {
          rules_are = rules_held old new puts kept.rules_are;
          counted = pairs_back (count - 1) (count_gone same_pair pairs_tell (nonzero f) (nonzero g) (k, m) w pair_step o count (count - 1) e (here_pair (Some o) was) (omega (arith, some)) (pairs_kept count kept.counted));
          few = omega (arith, kept.few);
          free = free_stays kept.free;
        }

  -- the markets, with one more rule that is changed
  module _ (fare : Fares) (before after : List RuleKey) (more : (q : RuleKey) → list_any (same_rule q) after ≡ cond (same_rule q (record { carrier = k; number = m })) true (list_any (same_rule q) before)) where
    row_stays : (n : Market) (row : SheetRow) → IsOldRow fare f before n row → IsOldRow fare g after n row
    row_stays n row h = record {
      filed_from = h.filed_from;
      filed_to = h.filed_to;
      live = h.live;
      rule_is = elim (cases_Bool (same_rule (rule_of row.fare) (record { carrier = k; number = m }))) [
        | inl t ↦ inr (more (rule_of row.fare) ∙ ap (λ b. cond b true (list_any (same_rule (rule_of row.fare)) before)) t)
        | inr t ↦ by t h.rule_is
      ];
    }
      where
        by : same_rule (rule_of row.fare) (record { carrier = k; number = m }) ≡ false → (f row.fare.key.carrier row.fare.rule ≡ Some row.rule) ⊎ IsTrue (list_any (same_rule (rule_of row.fare)) before)
            → (g row.fare.key.carrier row.fare.rule ≡ Some row.rule) ⊎ IsTrue (list_any (same_rule (rule_of row.fare)) after)
        by t (inl e) = inl (rule_else row.fare.key.carrier row.fare.rule t ∙ e)
        by t (inr e) = inr (more (rule_of row.fare) ∙ ap (λ b. cond b true (list_any (same_rule (rule_of row.fare)) before)) t ∙ e)

    sheet_stays : (n : Market) (o : Option Sheet) → Untouched fare f before n o → Untouched fare g after n o
    sheet_stays n None h = h
    sheet_stays n (Some s) h = record {
      filed_from = h.filed_from;
      filed_to = h.filed_to;
      some = h.some;
      ascending = h.ascending;
      rows_are = λ row i. row_stays n row (h.rows_are row i);
      all = h.all;
    }

    market_stays : {Z : Type 0} (sheets : List (Market × Arc Sheet Z)) (n : Market) (o : Option FareTable) → MatchOption o (Untouched fare f before n (sheet_at sheets n)) (λ t. TableOf fare n (fares_in t))
        → MatchOption o (Untouched fare g after n (sheet_at sheets n)) (λ t. TableOf fare n (fares_in t))
    market_stays sheets n None h = sheet_stays n (sheet_at sheets n) h
    market_stays sheets n (Some t) h = h

    pub fares_stay_kept : {Z : Type 0} (sheets : List (Market × Arc Sheet Z)) (tables : List (Market × FareTable)) (count : ℕ) (uses : List (RuleKey × ℕ)) → FaresKept fare f before sheets tables count uses → FaresKept fare g after sheets tables count uses
    fares_stay_kept sheets tables count uses h = record {
      markets = λ n. market_stays sheets n (lookup (same_market n) tables) (h.markets n);
      counted = h.counted;
      few = h.few;
      uses_are = h.uses_are;
      keyed = h.keyed;
    }

  pub stand_put : (fare : Fares) (r : Rule) → w ≡ Some r → Stand fare f → Stand fare g
  stand_put fare r e h q x l = elim (cases_Bool (same_rule (rule_of x) (record { carrier = k; number = m }))) [
    | inl t ↦
        let one : rule_of x ≡ record { carrier = k; number = m } = (same_rules_tell (rule_of x) (record { carrier = k; number = m })).0 t in
        subst (λ (z : RuleKey). IsSome (g z.carrier z.number)) (sym one) (some_there (g k m) r (rule_here ∙ e))
    | inr t ↦ subst IsSome (sym (rule_else x.key.carrier x.rule t)) (h q x l)
  ]

  pub stand_drop : (fare : Fares) → ((q : FareKey) → NamesRule fare (record { carrier = k; number = m }) q → ⊥) → ((q : FareKey) (x : Fare) → fare q ≡ Some x → q ≡ x.key) → Stand fare f → Stand fare g
  stand_drop fare none keyed h q x l = elim (cases_Bool (same_rule (rule_of x) (record { carrier = k; number = m }))) [
    | inl t ↦
        let one : rule_of x ≡ record { carrier = k; number = m } = (same_rules_tell (rule_of x) (record { carrier = k; number = m })).0 t in
        absurd (none q (x, l, ap (λ (z : FareKey). z.carrier) (keyed q x l) ∙ ap (λ (z : RuleKey). z.carrier) one, ap (λ (z : RuleKey). z.number) one))
    | inr t ↦ subst IsSome (sym (rule_else x.key.carrier x.rule t)) (h q x l)
  ]

pub proper_number : (n : ℕ) → IsRuleNumber n → n ≢ 0
proper_number n h z = omega (arith, h, z)

-- what isn't live is none
pub none_of : {A : Type 0} (o : Option A) (t : Bool) → t ≡ false → (IsSome o → IsTrue t) → o ≡ None
none_of None t f h = refl
none_of (Some x) t f h = absurd (clash (sym f ∙ h refl))
  where
    clash : false ≡ true → ⊥
    clash e = cc
