-- Tables and lists that are kept, found and added.
use Rattle.std.proofs.Common.{◌≡◌, ◌∙◌, ℕ, List, [], ◌∷◌, ◌++◌, length, slice_get, get_or, Some, sym, ap, subst}
use Rattle.std.specs.List.Sorted.{IsPermutation}
use Rattle.component_table.specs.Tables.{IsTable}
use Rattle.fare_law.specs.declared.requests.Request.{Request}
use Rattle.fare_law.specs.Book.{Book}
use Rattle.fare_law.specs.Lists.{Each}
use Rattle.flight_paths.specs.declared.positions.Position.{Position}
use Rattle.outlines.specs.declared.outline.Entry.{Entry}
use Rattle.outlines.specs.Outcomes.{EntryWithin, HasRule}
use Rattle.outlines.specs.Outlines.{Outlined}
use Rattle.residual_keys.proofs.SortedWords.{same_elements}
use Rattle.residual_table.specs.Keys.{KeepsNumbers}
use Rattle.search_steps.specs.declared.tables.PositionTable.{PositionTable}
use Rattle.search_steps.specs.Tables.{HasTable, IsOwnTable, TableAt}
use Rattle.search_steps.proofs.RowsInOrder.{still_each}
use Rattle.law_lemmas.proofs.EachOne.{each_got, each_more}
use Rattle.law_lemmas.proofs.Lists.{got_is, got_last, got_left}

-- one more at the end
pub keeps_pushed : {X : Type 0} (old new : List X) (x : X) → new ≡ old ++ x ∷ [] → KeepsNumbers old new
keeps_pushed old new x is n y e = ap (λ xs. slice_get xs n) is ∙ got_left old (x ∷ []) n y e

-- the table of a position in another order
pub in_another_order : (b : Book) (q : Request) (at : Position) (old new : List Entry) → IsPermutation old new → IsTable b q at old → IsTable b q at new
in_another_order b q at old new moves h = record {
  tabled = record {
    attained = still_each (λ e. Outlined b q at e.outline e.price) old new moves h.tabled.attained;
    covered = λ o price has. let e = h.tabled.covered o price has in (e.0, (same_elements e.0 old new moves).0 e.1, e.2, e.3);
  };
  rules = still_each (HasRule b) old new moves h.rules;
  within = still_each EntryWithin old new moves h.within;
}

-- one table more
pub tables_more : (b : Book) (q : Request) (old new : List PositionTable) (t : PositionTable) → new ≡ old ++ t ∷ [] → Each (IsOwnTable b q) old → IsOwnTable b q t → Each (IsOwnTable b q) new
tables_more b q old new t is h k = subst (Each (IsOwnTable b q)) (sym is) (each_more (IsOwnTable b q) old t h k)

pub table_last : (old new : List PositionTable) (t : PositionTable) (at : Position) (n : ℕ) → new ≡ old ++ t ∷ [] → n ≡ length old → t.at ≡ at → TableAt new at n
table_last old new t at n is e same = record { table = t; stands = ap (λ ts. slice_get ts n) is ∙ ap (slice_get (old ++ t ∷ [])) e ∙ got_last old t; position = same }

-- the table that a place gives
pub table_is : (b : Book) (q : Request) (ts : List PositionTable) (n : ℕ) (t : PositionTable) → Each (IsOwnTable b q) ts → HasTable ts n → t ≡ get_or ts n t → (slice_get ts n ≡ Some t) × IsOwnTable b q t
table_is b q ts n t h s is =
    let same : t ≡ s.0 = is ∙ got_is ts n t s.0 s.1 in
    let stands : slice_get ts n ≡ Some t = s.1 ∙ ap Some (sym same) in
    (stands, each_got (IsOwnTable b q) ts n t h stands)

pub has_table : (ts : List PositionTable) (at : Position) (n : ℕ) → TableAt ts at n → HasTable ts n
has_table ts at n s = (s.table, s.stands)

pub still_has : (ts us : List PositionTable) (n : ℕ) → us ≡ ts → HasTable ts n → HasTable us n
still_has ts us n e s = subst (λ xs. HasTable xs n) (sym e) s

-- the table of a position, at the place where it stands
pub table_there : (b : Book) (q : Request) (ts : List PositionTable) (at : Position) (n : ℕ) (t : PositionTable) → Each (IsOwnTable b q) ts → TableAt ts at n → t ≡ get_or ts n t → IsTable b q at t.entries
table_there b q ts at n t h s is =
    let same : t ≡ s.table = is ∙ got_is ts n t s.table s.stands in
    let table = each_got (IsOwnTable b q) ts n s.table h s.stands in
    subst (λ (x : PositionTable). IsTable b q at x.entries) (sym same) (subst (λ a. IsTable b q a s.table.entries) s.position table)

-- the table of a position is at it
pub table_there_at : (ts : List PositionTable) (at : Position) (n : ℕ) (t : PositionTable) → TableAt ts at n → t ≡ get_or ts n t → t.at ≡ at
table_there_at ts at n t s is = ap (λ (x : PositionTable). x.at) (is ∙ got_is ts n t s.table s.stands) ∙ s.position

pub keeps_then : {X : Type 0} (xs ys zs : List X) → KeepsNumbers xs ys → zs ≡ ys → KeepsNumbers xs zs
keeps_then xs ys zs h e n x g = ap (λ us. slice_get us n) e ∙ h n x g
