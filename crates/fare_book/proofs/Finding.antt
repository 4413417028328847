-- What the maps of a book tell.
use Rattle.std.proofs.Common.{◌≡◌, ℕ, Bool, true, false, cond, List, Option, Some, None, Decides, option_map, unwrap_or, refl, sym, ap, subst, ◌∙◌, Bor}
use Rattle.std.proofs.lemmas.Bool.Decides.{Decides-like, same_from_decides}
use Rattle.std.specs.Arc.{arc_value}
use Rattle.std.specs.declared.sync.Arc.{Arc}
use Rattle.std.specs.Map.{lookup}
use Rattle.std.specs.Option.{MatchOption, option_copied}
use Rattle.fare_law.specs.Book.{Book}
use Rattle.fare_law.specs.declared.rules.Rule.{Rule}
use Rattle.fare_law.specs.Sheets.{Sheet, SheetOf}
use Rattle.std.specs.List.{list_any}
use Rattle.fare_book.specs.contracts.keys.MarketPartialEq.TheImpl as market
use Rattle.fare_book.specs.contracts.keys.RuleKeyPartialEq.TheImpl as rule
use Rattle.fare_book.specs.declared.keys.Market.{Market}
use Rattle.fare_book.specs.declared.keys.RuleKey.{RuleKey}
use Rattle.fare_book.specs.Keeping.{NoFare, Sheets, rule_at, sheet_at, uses_at}
use Rattle.fare_book.specs.Keys.{same_market, same_rule}
use Rattle.fare_book.proofs.SameKeys.{market_tests_agree, rule_tests_agree, same_markets_tell, same_rules_tell}

-- what a map finds is what its entries have
pub market_found : {X : Type 0} (held : List (Market × X)) (m : Market) → lookup (market.ghosts.eq m) held ≡ lookup (same_market m) held
market_found held m = ap (λ e. lookup (e m) held) market_tests_agree

pub rule_found : {X : Type 0} (held : List (RuleKey × X)) (k : RuleKey) → lookup (rule.ghosts.eq k) held ≡ lookup (same_rule k) held
rule_found held k = ap (λ e. lookup (e k) held) rule_tests_agree

match_behind : {X Y : Type 0} (f : X → Y) (r : Option (Bor X)) (o : Option X) (N : Type 0) (P : Y → Type 0) → option_copied r ≡ o → MatchOption (option_map f o) N P → MatchOption r N (λ x. P (f x.now))
match_behind f None o N P e m = subst (λ o. MatchOption (option_map f o) N P) (sym e) m
match_behind f (Some x) o N P e m = subst (λ o. MatchOption (option_map f o) N P) (sym e) m

pub sheet_found : {Z : Type 0} (sheets : List (Market × Arc Sheet Z)) (m : Market) (b v : Book) (r : Option (Bor (Arc Sheet Z))) → v ≡ b → option_copied r ≡ lookup (market.ghosts.eq m) sheets → Sheets v sheets
    → MatchOption r (NoFare b m.from m.to) (λ sheet. SheetOf b m.from m.to (arc_value sheet.now))
sheet_found sheets m b v r is found s =
    match_behind arc_value r (lookup (same_market m) sheets) (NoFare b m.from m.to) (SheetOf b m.from m.to) (found ∙ market_found sheets m) (subst (λ w. MatchOption (sheet_at sheets m) (NoFare w m.from m.to) (SheetOf w m.from m.to)) is (s m))

-- a change that a map tells, by the test of the definitions
pub flips : {A : Type 0} (same : A → A → Bool) → ((a b : A) → Decides (same a b) (a ≡ b)) → (a b : A) → same a b ≡ same b a
flips same tells a b = same_from_decides (same a b) (same b a) (tells a b) (Decides-like _ (λ e. sym e) (λ e. sym e) (tells b a))

pub rule_changes : {X : Type 0} (old new : List (RuleKey × X)) (r : RuleKey) (w : Option X) → ((q : RuleKey) → lookup (rule.ghosts.eq q) new ≡ cond (rule.ghosts.eq r q) w (lookup (rule.ghosts.eq q) old))
    → (k : RuleKey) → lookup (same_rule k) new ≡ cond (same_rule k r) w (lookup (same_rule k) old)
rule_changes {X = X} old new r w u k =
    subst (λ (e : RuleKey → RuleKey → Bool). (q : RuleKey) → lookup (e q) new ≡ cond (e r q) w (lookup (e q) old)) rule_tests_agree u k
    ∙ ap (λ b. cond b w (lookup (same_rule k) old)) (flips same_rule same_rules_tell r k)

pub market_changes : {X : Type 0} (old new : List (Market × X)) (r : Market) (w : Option X) → ((q : Market) → lookup (market.ghosts.eq q) new ≡ cond (market.ghosts.eq r q) w (lookup (market.ghosts.eq q) old))
    → (k : Market) → lookup (same_market k) new ≡ cond (same_market k r) w (lookup (same_market k) old)
market_changes {X = X} old new r w u k =
    subst (λ (e : Market → Market → Bool). (q : Market) → lookup (e q) new ≡ cond (e r q) w (lookup (e q) old)) market_tests_agree u k
    ∙ ap (λ b. cond b w (lookup (same_market k) old)) (flips same_market same_markets_tell r k)

-- the count of a rule is set
pub uses_set : (old new : List (RuleKey × ℕ)) (r : RuleKey) (n : ℕ) → ((q : RuleKey) → lookup (rule.ghosts.eq q) new ≡ cond (rule.ghosts.eq r q) (Some n) (lookup (rule.ghosts.eq q) old))
    → (k : RuleKey) → uses_at new k ≡ cond (same_rule k r) n (uses_at old k)
uses_set old new r n u k = ap (λ o. unwrap_or o 0) (rule_changes old new r (Some n) u k) ∙ by (same_rule k r)
  where
    by : (t : Bool) → unwrap_or (cond t (Some n) (lookup (same_rule k) old)) 0 ≡ cond t n (uses_at old k)
    by true = refl
    by false = refl

-- a rule is set or taken away
pub rule_set : (old new : List (RuleKey × Rule)) (r : RuleKey) (w v : Option Rule) → w ≡ v → ((q : RuleKey) → lookup (rule.ghosts.eq q) new ≡ cond (rule.ghosts.eq r q) w (lookup (rule.ghosts.eq q) old))
    → (k : RuleKey) → rule_at new k ≡ cond (same_rule k r) v (rule_at old k)
rule_set old new r w v is u k = rule_changes old new r w u k ∙ by (same_rule k r)
  where
    by : (t : Bool) → cond t w (lookup (same_rule k) old) ≡ cond t v (rule_at old k)
    by true = is
    by false = refl

pub set_grows : (old new : List RuleKey) (r : RuleKey) → ((q : RuleKey) → list_any (rule.ghosts.eq q) new ≡ cond (rule.ghosts.eq r q) true (list_any (rule.ghosts.eq q) old))
    → (k : RuleKey) → list_any (same_rule k) new ≡ cond (same_rule k r) true (list_any (same_rule k) old)
set_grows old new r u k =
    subst (λ (e : RuleKey → RuleKey → Bool). (q : RuleKey) → list_any (e q) new ≡ cond (e r q) true (list_any (e q) old)) rule_tests_agree u k
    ∙ ap (λ b. cond b true (list_any (same_rule k) old)) (flips same_rule same_rules_tell r k)
