-- What a draft keeps of the fares, as one is put or dropped.
use Rattle.std.proofs.Common.{◌≡◌, ◌≤◌, ◌<◌, ◌+◌, ◌-◌, ℕ, Bool, true, false, cond, List, [], ◌∷◌, Option, Some, None, IsSome, refl, sym, ap, subst, ◌∙◌, inl, inr, arith}
use Rattle.std.specs.declared.sync.Arc.{Arc}
use Rattle.fare_law.specs.declared.fares.Fare.{Fare}
use Rattle.fare_law.specs.declared.fares.FareKey.{FareKey}
use Rattle.fare_law.specs.Book.{same_key}
use Rattle.fare_law.specs.Sheets.{Sheet}
use Rattle.fare_book.specs.Counts.{Exactly}
use Rattle.fare_book.specs.Drafts.{FaresKept, Stand}
use Rattle.fare_book.specs.Keeping.{uses_at, uses_without}
use Rattle.fare_book.specs.Keys.{same_rule}
use Rattle.fare_book.specs.Tables.{AreKeyed, Changes, Fares, LiveRules, NamesRule, rule_of}
use Rattle.fare_book.specs.declared.fare_table.FareTable.{FareTable}
use Rattle.fare_book.specs.declared.keys.Market.{Market}
use Rattle.fare_book.specs.declared.keys.RuleKey.{RuleKey}
use Rattle.fare_law.specs.declared.limits.TheConstants.{MOST_FARES}
use Rattle.fare_book.proofs.Counting.{many_same}
use Rattle.fare_book.proofs.FareSteps.{use_less, use_more}
use Rattle.fare_book.proofs.SameKeys.{same_fares_tell}
use Rattle.fare_book.proofs.Updates.{at_key, count_gone, count_new, count_old, either}
use Rattle.law_lemmas.proofs.Options.{some_there}

one : (x y : Fare) → Some x ≡ Some y → x ≡ y
one x y e = cc

pub clash : {G : Type 0} (o : Option Fare) (x : Fare) → o ≡ None → o ≡ Some x → G
clash None x e s = absurd (cc)
clash (Some y) x e s = absurd (cc)

-- ---- what is live of fares, after one is put or dropped
module _ (f g : Fares) (k : FareKey) where
  pub keyed_put : (x : Fare) → k ≡ x.key → ((q : FareKey) → g q ≡ cond (same_key q k) (Some x) (f q)) → AreKeyed f → AreKeyed g
  keyed_put x key step h q y l = elim (either same_key same_fares_tell f g k (Some x) step q) [
    | inl e ↦ e ∙ key ∙ ap (λ (z : Fare). z.key) (one x y (sym (ap g e ∙ at_key same_key same_fares_tell f g k (Some x) step) ∙ l))
    | inr e ↦ h q y (sym e ∙ l)
  ]

  pub keyed_drop : ((q : FareKey) → g q ≡ cond (same_key q k) None (f q)) → AreKeyed f → AreKeyed g
  keyed_drop step h q y l = elim (either same_key same_fares_tell f g k None step q) [
    | inl e ↦ clash (g q) y (ap g e ∙ at_key same_key same_fares_tell f g k None step) l
    | inr e ↦ h q y (sym e ∙ l)
  ]

  pub stand_put : (rule : LiveRules) (x : Fare) → ((q : FareKey) → g q ≡ cond (same_key q k) (Some x) (f q)) → IsSome (rule x.key.carrier x.rule) → Stand f rule → Stand g rule
  stand_put rule x step s h q y l = elim (either same_key same_fares_tell f g k (Some x) step q) [
    | inl e ↦ subst (λ (z : Fare). IsSome (rule z.key.carrier z.rule)) (one x y (sym (ap g e ∙ at_key same_key same_fares_tell f g k (Some x) step) ∙ l)) s
    | inr e ↦ h q y (sym e ∙ l)
  ]

  pub stand_drop : (rule : LiveRules) → ((q : FareKey) → g q ≡ cond (same_key q k) None (f q)) → Stand f rule → Stand g rule
  stand_drop rule step h q y l = elim (either same_key same_fares_tell f g k None step q) [
    | inl e ↦ clash (g q) y (ap g e ∙ at_key same_key same_fares_tell f g k None step) l
    | inr e ↦ h q y (sym e ∙ l)
  ]

-- the count of a rule fits
uses_fit : (f h : Fares) (count : ℕ) (r : RuleKey) (n : ℕ) → count ≤ MOST_FARES → Exactly count (λ key. IsSome (f key)) → ((q : FareKey) → NamesRule h r q → IsSome (f q)) → Exactly n (NamesRule h r) → n + 1 < 4294967296
uses_fit f h count r n few counted live c = omega (arith, few, counted.most n (many_same (NamesRule h r) (λ key. IsSome (f key)) live n c.many))

module _ {Z : Type 0} (f g : Fares) (rule : LiveRules) (changed : List RuleKey) (sheets : List (Market × Arc Sheet Z)) (old new : List (Market × FareTable)) (count : ℕ) (uses : List (RuleKey × ℕ)) (kept : FaresKept f rule changed sheets old count uses) where
  named_live : (r : RuleKey) (q : FareKey) → NamesRule f r q → IsSome (f q)
  named_live r q n = some_there (f q) n.0 n.1

  pub fares_new : (x : Fare) (used : List (RuleKey × ℕ)) → Changes sheets old new x.key (Some x) None → ((q : FareKey) → g q ≡ cond (same_key q x.key) (Some x) (f q)) → count < MOST_FARES
      → ((r : RuleKey) → uses_at uses (rule_of x) + 1 < 4294967296 → uses_at used r ≡ cond (same_rule r (rule_of x)) (uses_at uses (rule_of x) + 1) (uses_at uses r))
      → FaresKept g rule changed sheets new (count + 1) used
  fares_new x used changes step room counts =
      let told = changes f g rule changed kept.keyed kept.markets step in
      let fits = uses_fit f f count (rule_of x) (uses_at uses (rule_of x)) kept.few kept.counted (named_live (rule_of x)) (kept.uses_are (rule_of x)) in
      record {
        markets = told.1;
        counted = count_new same_key same_fares_tell f g x.key (Some x) step x count refl (sym told.0) kept.counted;
        few = omega (arith, room);
        uses_are = use_more f g x.key x (sym told.0) refl step (uses_at uses) (uses_at used) (λ r. counts r fits) kept.uses_are;
        keyed = keyed_put f g x.key x refl step kept.keyed;
      }

  pub fares_old : (x o : Fare) (used : List (RuleKey × ℕ)) → Changes sheets old new x.key (Some x) (Some o) → ((q : FareKey) → g q ≡ cond (same_key q x.key) (Some x) (f q))
      → ((r : RuleKey) → 1 ≤ uses_at uses (rule_of o) → uses_without uses (rule_of o) (rule_of x) + 1 < 4294967296
      → uses_at used r ≡ cond (same_rule r (rule_of x)) (uses_without uses (rule_of o) (rule_of x) + 1) (uses_without uses (rule_of o) r))
      → FaresKept g rule changed sheets new count used
  fares_old x o used changes step moves =
      let told = changes f g rule changed kept.keyed kept.markets step in
      let was : f x.key ≡ Some o = sym told.0 in
      let key : x.key ≡ o.key = kept.keyed x.key o was in
      let named : NamesRule f (rule_of o) x.key = (o, was, ap (λ (k : FareKey). k.carrier) key, refl) in
      let some : 1 ≤ uses_at uses (rule_of o) = (kept.uses_are (rule_of o)).most 1 (x.key ∷ [], refl, (tt, tt), (named, tt)) in
      let h : Fares = λ q. cond (same_key q x.key) None (f q) in
      let gone : h x.key ≡ None = at_key same_key same_fares_tell f h x.key None (λ q. refl) in
      let between = uses_without uses (rule_of o) in
      let fewer = use_less f h x.key o was key (λ q. refl) (uses_at uses) between (λ r. refl) kept.uses_are in
      let fits = uses_fit f h count (rule_of x) (between (rule_of x)) kept.few kept.counted (was_live h (λ q. refl) (rule_of x)) (fewer (rule_of x)) in
      record {
        markets = told.1;
        counted = count_old same_key same_fares_tell f g x.key (Some x) step x o count refl was kept.counted;
        few = kept.few;
        uses_are = use_more h g x.key x gone refl (λ q. step q ∙ twice (same_key q x.key) q) between (uses_at used) (λ r. moves r some fits) fewer;
        keyed = keyed_put f g x.key x refl step kept.keyed;
      }
    where
      twice : (b : Bool) (q : FareKey) → cond b (Some x) (f q) ≡ cond b (Some x) (cond b None (f q))
      twice true q = refl
      twice false q = refl

      was_live : (h : Fares) → ((q : FareKey) → h q ≡ cond (same_key q x.key) None (f q)) → (r : RuleKey) (q : FareKey) → NamesRule h r q → IsSome (f q)
      was_live h is r q n = elim (either same_key same_fares_tell f h x.key None is q) [
        | inl e ↦ clash (h q) n.0 (ap h e ∙ at_key same_key same_fares_tell f h x.key None is) n.1
        | inr e ↦ some_there (f q) n.0 (sym e ∙ n.1)
      ]

  pub fares_gone : (k : FareKey) (o : Fare) (used : List (RuleKey × ℕ)) → Changes sheets old new k None (Some o) → ((q : FareKey) → g q ≡ cond (same_key q k) None (f q))
      → ((r : RuleKey) → uses_at used r ≡ cond (same_rule r (rule_of o)) (uses_at uses (rule_of o) - 1) (uses_at uses r))
      → FaresKept g rule changed sheets new (count - 1) used
  fares_gone k o used changes step less =
      let told = changes f g rule changed kept.keyed kept.markets step in
      let was : f k ≡ Some o = sym told.0 in
      let some : 1 ≤ count = kept.counted.most 1 (k ∷ [], refl, (tt, tt), (some_there (f k) o was, tt)) in
      record {
        markets = told.1;
        counted = count_gone same_key same_fares_tell f g k None step o count (count - 1) refl was (omega (arith, some)) kept.counted;
        few = omega (arith, kept.few);
        uses_are = use_less f g k o was (kept.keyed k o was) step (uses_at uses) (uses_at used) less kept.uses_are;
        keyed = keyed_drop f g k step kept.keyed;
      }
