-- The rows of a sheet, as a table takes them.
use Rattle.std.proofs.Common.{◌≡◌, ◌||◌, ◌&&◌, ◌+◌, ◌<◌, ℕ, Bool, true, false, cond, List, [], ◌∷◌, ◌++◌, length, take, get_or, Option, Some, None, Result, Ok, Err, IfOk, OnOk, option_map, refl, sym, ap, ap₂, subst, ◌∙◌, inl, inr}
use Rattle.std.specs.Arc.{arc_value}
use Rattle.std.specs.List.{list_any}
use Rattle.std.specs.Map.{lookup}
use Rattle.std.specs.Option.{MatchOption}
use Rattle.std.specs.declared.sync.Arc.{Arc}
use Rattle.fare_law.specs.declared.fares.Fare.{Fare}
use Rattle.fare_law.specs.declared.fares.FareKey.{FareKey}
use Rattle.fare_law.specs.declared.sheets.SheetRow.{SheetRow}
use Rattle.fare_law.specs.Book.{same_key, same_place}
use Rattle.fare_law.specs.Lists.{Each, IsIn}
use Rattle.fare_law.specs.Sheets.{Sheet}
use Rattle.fare_book.specs.Tables.{AreKeyed, Fares, LiveRules, MarketHolds, NoneOf, OldSheet, TableOf, Untouched, in_market, fares_in}
use Rattle.fare_book.specs.Keeping.{sheet_at}
use Rattle.fare_book.specs.Keys.{same_market}
use Rattle.fare_book.specs.declared.fare_table.FareTable.{FareTable}
use Rattle.fare_book.specs.declared.keys.Market.{Market}
use Rattle.fare_book.specs.declared.keys.RuleKey.{RuleKey}
use Rattle.fare_book.proofs.Counting.{each_from}
use Rattle.fare_book.proofs.SameKeys.{same_fares_tell}
use Rattle.law_lemmas.proofs.EachOne.{each_front}
use Rattle.law_lemmas.proofs.Lists.{front_read}
use Rattle.law_lemmas.proofs.Names.{places_told}
use Rattle.law_lemmas.proofs.Tests.{or_true}

-- the table has the fares of these rows, where each has the live fare of its key
abbrev pub RowsIn : List SheetRow → List (FareKey × Fare) → Type 0
RowsIn rows table = (fare : Fares) → Each (λ row. fare row.fare.key ≡ Some row.fare) rows → (key : FareKey) → lookup (same_key key) table ≡ cond (list_any (λ row. same_key key row.fare.key) rows) (fare key) None

pub rows_none : (table : List (FareKey × Fare)) → table ≡ [] → RowsIn [] table
rows_none table e fare h key = ap (lookup (same_key key)) e

or_false : (b : Bool) → (b || false) ≡ b
or_false true = refl
or_false false = refl

any_push : {X : Type 0} (p : X → Bool) (xs : List X) (x : X) → list_any p (xs ++ x ∷ []) ≡ (list_any p xs || p x)
any_push p [] x = or_false (p x)
any_push p (y ∷ ys) x = ap (λ b. p y || b) (any_push p ys x) ∙ joined (p y) (list_any p ys) (p x)
  where
    joined : (a b c : Bool) → (a || (b || c)) ≡ ((a || b) || c)
    joined true b c = refl
    joined false b c = refl

rows_push : (rows : List SheetRow) (row : SheetRow) (old new : List (FareKey × Fare)) → ((key : FareKey) → lookup (same_key key) new ≡ cond (same_key key row.fare.key) (Some row.fare) (lookup (same_key key) old))
    → RowsIn rows old → RowsIn (rows ++ row ∷ []) new
rows_push rows row old new puts held fare each key =
    puts key ∙ by (same_key key row.fare.key) refl ∙ sym (ap (λ b. cond b (fare key) None) (any_push (λ r. same_key key r.fare.key) rows row))
  where
    front : Each (λ r. fare r.fare.key ≡ Some r.fare) rows × (fare row.fare.key ≡ Some row.fare)
    front = each_front (λ r. fare r.fare.key ≡ Some r.fare) rows row each

    by : (t : Bool) → same_key key row.fare.key ≡ t → cond t (Some row.fare) (lookup (same_key key) old) ≡ cond (list_any (λ r. same_key key r.fare.key) rows || same_key key row.fare.key) (fare key) None
    by true t = sym front.1 ∙ ap fare (sym ((same_fares_tell key row.fare.key).0 t)) ∙ sym (ap (λ b. cond b (fare key) None) (ap (λ b. list_any (λ r. same_key key r.fare.key) rows || b) t ∙ or_true (list_any (λ r. same_key key r.fare.key) rows)))
    by false t = held fare front.0 key ∙ sym (ap (λ b. cond b (fare key) None) (ap (λ b. list_any (λ r. same_key key r.fare.key) rows || b) t ∙ or_false (list_any (λ r. same_key key r.fare.key) rows)))

pub rows_more : (rows : List SheetRow) (i : ℕ) (d row : SheetRow) → i < length rows → row ≡ get_or rows i d → (old new : List (FareKey × Fare)) → ((key : FareKey) → lookup (same_key key) new ≡ cond (same_key key row.fare.key) (Some row.fare) (lookup (same_key key) old))
    → RowsIn (take i rows) old → RowsIn (take (i + 1) rows) new
rows_more rows i d row lt is old new puts held = subst (λ rs. RowsIn rs new) (sym (front_read rows i d row lt is)) (rows_push (take i rows) row old new puts held)

-- ---- markets
pub in_market_tells : (m : Market) (key : FareKey) → in_market m key ≡ true → (key.from ≡ m.from) × (key.to ≡ m.to)
in_market_tells m key t = by (same_place m.from key.from) (same_place m.to key.to) refl refl t
  where
    by : (f g : Bool) → same_place m.from key.from ≡ f → same_place m.to key.to ≡ g → (f && g) ≡ true → (key.from ≡ m.from) × (key.to ≡ m.to)
    by true true f g t = (sym ((places_told m.from key.from).0 f), sym ((places_told m.to key.to).0 g))
    by true false f g t = absurd (cc)
    by false g' f g t = absurd (cc)

pub in_market_is : (m : Market) (key : FareKey) → key.from ≡ m.from → key.to ≡ m.to → in_market m key ≡ true
in_market_is m key f t = ap₂ (λ a b. a && b) ((places_told m.from key.from).1 (sym f)) ((places_told m.to key.to).1 (sym t))

pub none_table : (fare : Fares) (m : Market) (table : List (FareKey × Fare)) → table ≡ [] → NoneOf fare m → TableOf fare m table
none_table fare m table e none key = ap (lookup (same_key key)) e ∙ by (in_market m key) refl
  where
    by : (t : Bool) → in_market m key ≡ t → None ≡ cond t (fare key) None
    by true t = let told = in_market_tells m key t in sym (none key told.0 told.1)
    by false t = refl

any_in : (key : FareKey) (rows : List SheetRow) (row : SheetRow) → IsIn row rows → key ≡ row.fare.key → list_any (λ r. same_key key r.fare.key) rows ≡ true
any_in key [] row i e = absurd i
any_in key (r ∷ rows) row (inl s) e = ap (λ b. b || list_any (λ r. same_key key r.fare.key) rows) ((same_fares_tell key r.fare.key).1 (e ∙ ap (λ (r : SheetRow). r.fare.key) s))
any_in key (r ∷ rows) row (inr i) e = ap (λ b. same_key key r.fare.key || b) (any_in key rows row i e) ∙ or_true (same_key key r.fare.key)

in_any : (key : FareKey) (rows : List SheetRow) → list_any (λ r. same_key key r.fare.key) rows ≡ true → (row : SheetRow) × IsIn row rows × (key ≡ row.fare.key)
in_any key [] t = absurd (cc)
in_any key (r ∷ rows) t = by (in_any key rows) (same_key key r.fare.key) refl t
  where
    by : (list_any (λ r. same_key key r.fare.key) rows ≡ true → (row : SheetRow) × IsIn row rows × (key ≡ row.fare.key)) → (b : Bool) → same_key key r.fare.key ≡ b → (b || list_any (λ r. same_key key r.fare.key) rows) ≡ true
        → (row : SheetRow) × IsIn row (r ∷ rows) × (key ≡ row.fare.key)
    by rest true b t = (r, inl refl, (same_fares_tell key r.fare.key).0 b)
    by rest false b t = let found = rest t in (found.0, inr found.1, found.2)

pub sheet_table : (fare : Fares) (rule : LiveRules) (changed : List RuleKey) (m : Market) (sheet : Sheet) (table : List (FareKey × Fare)) → ((key : FareKey) (f : Fare) → fare key ≡ Some f → key ≡ f.key)
    → OldSheet fare rule changed m sheet → RowsIn sheet.rows table → TableOf fare m table
sheet_table fare rule changed m sheet table keyed old rows key = rows fare (each_from (λ row. fare row.fare.key ≡ Some row.fare) sheet.rows (λ row i. (old.rows_are row i).live)) key ∙ by (list_any (λ row. same_key key row.fare.key) sheet.rows) refl (in_market m key) refl
  where
    clash : {A : Type 0} → true ≡ false → A
    clash e = absurd (cc)

    none : (o : Option Fare) → fare key ≡ o → list_any (λ row. same_key key row.fare.key) sheet.rows ≡ false → in_market m key ≡ true → None ≡ fare key
    none None e a t = sym e
    none (Some f) e a t =
        let told = in_market_tells m key t in
        let row = old.all key f e told.0 told.1 in
        clash (sym (any_in key sheet.rows row.0 row.1 (keyed key f e ∙ ap (λ (x : Fare). x.key) (sym row.2))) ∙ a)

    by : (a : Bool) → list_any (λ row. same_key key row.fare.key) sheet.rows ≡ a → (t : Bool) → in_market m key ≡ t → cond a (fare key) None ≡ cond t (fare key) None
    by true a true t = refl
    by true a false t =
        let row = in_any key sheet.rows a in
        let is = old.rows_are row.0 row.1 in
        clash (sym (in_market_is m key (ap (λ (k : FareKey). k.from) row.2 ∙ is.filed_from) (ap (λ (k : FareKey). k.to) row.2 ∙ is.filed_to)) ∙ t)
    by false a true t = none (fare key) refl a t
    by false a false t = refl

pub old_table : {Z : Type 0} (fare : Fares) (rule : LiveRules) (changed : List RuleKey) (sheets : List (Market × Arc Sheet Z)) (tables : List (Market × FareTable)) (m : Market) (sheet : Arc Sheet Z) (s : Sheet) (table : List (FareKey × Fare))
    → lookup (same_market m) tables ≡ None → lookup (same_market m) sheets ≡ Some sheet → s ≡ arc_value sheet → RowsIn s.rows table → AreKeyed fare → MarketHolds fare rule changed sheets tables m → TableOf fare m table
old_table {Z = Z} fare rule changed sheets tables m sheet s table none some is rows keyed holds =
    sheet_table fare rule changed m s table keyed (subst (OldSheet fare rule changed m) (sym is) old) rows
  where
    old : OldSheet fare rule changed m (arc_value sheet)
    old =
        let untouched : Untouched fare rule changed m (sheet_at sheets m) = subst (λ o. MatchOption o (Untouched fare rule changed m (sheet_at sheets m)) (λ t. TableOf fare m (fares_in t))) none holds in
        subst (λ o. Untouched fare rule changed m (option_map arc_value o)) some untouched

pub ok_both : {X E : Type 0} (r : Result X E) (P R : X → Type 0) (Q : Type 0) → ((x : X) → P x → Q → R x) → IfOk r P → OnOk r Q → IfOk r R
ok_both (Ok x) P R Q h p q = h x p q
ok_both (Err e) P R Q h p q = tt
