-- Tables merged one by one, by what of a position's components they have.
use Rattle.std.proofs.Common.{◌≡◌, ◌⊎◌, ℕ, ◌<◌, List, [], ◌∷◌, ◌++◌, length, map, refl, sym, subst, inl, inr}
use Rattle.component_table.specs.Steps.{MergesMore}
use Rattle.fare_law.specs.declared.requests.Request.{Request}
use Rattle.fare_law.specs.Book.{Book}
use Rattle.fare_law.specs.Lists.{AllDifferent, Each, IsIn, IsPrefix}
use Rattle.flight_paths.specs.declared.positions.Position.{Position}
use Rattle.component_table.specs.Tables.{HasThose, IsEntry}
use Rattle.component_table.proofs.MergedTables.{covers_merged, have_more, numbers_merged, right_merged}
use Rattle.law_lemmas.proofs.Members.{in_either, in_one}
use Rattle.law_lemmas.proofs.Numbers.{le_itself}
use Rattle.outline_tables.specs.declared.outline_numbers.Priced.{Priced}
use Rattle.outline_tables.specs.declared.outline_numbers.RuledOutline.{RuledOutline}
use Rattle.outline_tables.specs.Merges.{IsLeastMerge}
use Rattle.outline_tables.specs.Numbers.{entries_of}
use Rattle.outlines.specs.declared.outline.Outline.{Outline}

-- A merge so far: it has each outline once, its entries are the position's, and of such components it misses none.
pub record MergesThose (b : Book) (q : Request) (at : Position) (these : Outline → List ℕ → Type 0) (known : List RuledOutline) (table : List Priced) : Type 0 where
  pub has : HasThose b q at these known table
  pub once : AllDifferent (map (λ (p : Priced). p.outline) table)

pub merges_none : (b : Book) (q : Request) (at : Position) (these : Outline → List ℕ → Type 0) (known : List RuledOutline) (table : List Priced) → ((o : Outline) (ns : List ℕ) → these o ns → ⊥) → table ≡ [] → MergesThose b q at these known table
merges_none b q at these known [] none e = record { has = record { numbers = tt; right = tt; covers = λ o price c w. absurd (none o c.numbers w) }; once = tt }
merges_none b q at these known (p ∷ table) none e = absurd (cc)

-- a table alone is its own merge
least_itself : (table : List Priced) → AllDifferent (map (λ (p : Priced). p.outline) table) → IsLeastMerge (table ∷ []) table
least_itself table once = record {
  once = once;
  has = λ t i p j. elim i [ inl e ↦ (p, subst (IsIn p) e j, refl, le_itself p.price) | inr none ↦ absurd none ];
  only = λ m i. (table, inl refl, i);
}

module _ (b : Book) (q : Request) (at : Position) (these other both : Outline → List ℕ → Type 0) (known more : List RuledOutline) (old new : List Priced) where
  -- and one more
  pub merges_next : MergesThose b q at these known old → IsPrefix known more → MergesMore b q at other more old new → ((o : Outline) (ns : List ℕ) → both o ns → these o ns ⊎ other o ns) → MergesThose b q at both more new
  merges_next h prefix k parts = record {
    has = record {
      numbers = numbers_merged b q at more (old ∷ k.table ∷ []) new merge (λ t i. elim i [
        | inl e ↦ subst (Each (λ (p : Priced). p.outline < length more)) (sym e) had.numbers
        | inr j ↦ elim j [ inl e ↦ subst (Each (λ (p : Priced). p.outline < length more)) (sym e) k.has.numbers | inr none ↦ absurd none ]
      ]);
      right = right_merged b q at more (old ∷ k.table ∷ []) new merge (λ t i. elim i [
        | inl e ↦ subst (λ xs. Each (IsEntry b q at) (entries_of more xs)) (sym e) had.right
        | inr j ↦ elim j [ inl e ↦ subst (λ xs. Each (IsEntry b q at) (entries_of more xs)) (sym e) k.has.right | inr none ↦ absurd none ]
      ]);
      covers = λ o price c w. elim (parts o c.numbers w) [
        | inl x ↦ covers_merged b q at more (old ∷ k.table ∷ []) new merge these old (inl refl) had.covers o price c x
        | inr x ↦ covers_merged b q at more (old ∷ k.table ∷ []) new merge other k.table (inr (inl refl)) k.has.covers o price c x
      ];
    };
    once = merge.once;
  }
    where
      had : HasThose b q at these more old
      had = have_more b q at these known more old prefix h.has

      merge : IsLeastMerge (old ∷ k.table ∷ []) new
      merge = k.merged (old ∷ []) (least_itself old h.once)

-- such components of some flights
abbrev pub Among : (ℕ → Outline → List ℕ → Type 0) → List ℕ → Outline → List ℕ → Type 0
Among of ns o path = (n : ℕ) × IsIn n ns × of n o path

pub merges_flight : (b : Book) (q : Request) (at : Position) (of : ℕ → Outline → List ℕ → Type 0) (ns : List ℕ) (n : ℕ) (known more : List RuledOutline) (old new : List Priced) → MergesThose b q at (Among of ns) known old → IsPrefix known more → MergesMore b q at (of n) more old new → MergesThose b q at (Among of (ns ++ n ∷ [])) more new
merges_flight b q at of ns n known more old new h prefix k =
    merges_next b q at (Among of ns) (of n) (Among of (ns ++ n ∷ [])) known more old new h prefix k
    (λ o path w. elim (in_either w.0 ns (n ∷ []) w.1) [ inl j ↦ inl (w.0, j, w.2) | inr j ↦ inr (subst (λ m. of m o path) (in_one w.0 n j) w.2) ])

-- a table that was found, and merged with what was known then
pub merges_kept : (b : Book) (q : Request) (at : Position) (these : Outline → List ℕ → Type 0) (known more : List RuledOutline) → more ≡ known → (table found old mid new : List Priced) → found ≡ table → mid ≡ old → HasThose b q at these known table
    → ((tables : List (List Priced)) → IsLeastMerge tables mid → IsLeastMerge (tables ++ found ∷ []) new) → MergesMore b q at these more old new
merges_kept b q at these known more same table found old mid new is kept has merged = record {
  table = table;
  has = subst (λ k. HasThose b q at these k table) (sym same) has;
  merged = λ tables h. subst (λ xs. IsLeastMerge (tables ++ xs ∷ []) new) is (merged tables (subst (IsLeastMerge tables) (sym kept) h));
}
