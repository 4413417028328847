-- Tables merged, by what of a position's components they have.
use Rattle.std.proofs.Common.{◌≡◌, ◌⊎◌, ℕ, ◌<◌, ◌≤◌, List, ◌++◌, length, length-append, slice_get, sym, ap, subst, ◌∙◌, inl, inr, arith}
use Rattle.component_table.specs.Tables.{CoversThose, HasBelow, HasThose, IsEntry, IsPricedTable}
use Rattle.fare_law.specs.declared.requests.Request.{Request}
use Rattle.fare_law.specs.Book.{Book}
use Rattle.fare_law.specs.Lists.{Each, IsIn, IsPrefix}
use Rattle.flight_paths.specs.declared.positions.Position.{Position}
use Rattle.law_lemmas.proofs.EachOne.{each_append, each_by, each_from, each_in}
use Rattle.law_lemmas.proofs.Members.{in_left, in_right}
use Rattle.law_lemmas.proofs.Numbers.{le_on}
use Rattle.outline_tables.specs.declared.outline_numbers.Priced.{Priced}
use Rattle.outline_tables.specs.declared.outline_numbers.RuledOutline.{RuledOutline}
use Rattle.outline_tables.specs.Merges.{IsLeastMerge}
use Rattle.outline_tables.specs.Numbers.{entries_of, entry_at}
use Rattle.outline_tables.proofs.NumberFacts.{entries_append, entries_more, entry_from, entry_in}
use Rattle.outlines.specs.declared.outline.Entry.{Entry}
use Rattle.outlines.specs.declared.outline.Outline.{Outline}
use Rattle.outlines.specs.Outcomes.{EntryWithin, HasRule}
use Rattle.outlines.specs.Outlines.{Outlined}

module _ (b : Book) (q : Request) (at : Position) (known : List RuledOutline) where
  module _ (tables : List (List Priced)) (merged : List Priced) (m : IsLeastMerge tables merged) where
    pub numbers_merged : ((t : List Priced) → IsIn t tables → Each (λ (p : Priced). p.outline < length known) t) → Each (λ (p : Priced). p.outline < length known) merged
    numbers_merged h = each_from (λ (p : Priced). p.outline < length known) merged (λ p i. let o = m.only p i in each_in (λ (p : Priced). p.outline < length known) o.0 p (h o.0 o.1) o.2)

    -- entries of the position stay so
    pub right_merged : ((t : List Priced) → IsIn t tables → Each (IsEntry b q at) (entries_of known t)) → Each (IsEntry b q at) (entries_of known merged)
    right_merged h = each_from (IsEntry b q at) (entries_of known merged) (λ e i.
        let x = entry_from known merged e i in
        let o = m.only x.0 x.1 in
        each_in (IsEntry b q at) (entries_of known o.0) e (h o.0 o.1) (subst (λ (y : Entry). IsIn y (entries_of known o.0)) (sym x.4) (entry_in known o.0 x.0 x.2 o.2 x.3)))

    -- and what one of the tables doesn't miss the merge doesn't
    pub covers_merged : (these : Outline → List ℕ → Type 0) (t : List Priced) → IsIn t tables → CoversThose b q at these (entries_of known t) → CoversThose b q at these (entries_of known merged)
    covers_merged these t i c o price h w =
        let x = c o price h w in
        let f = entry_from known t x.entry x.within in
        let k = m.has t i f.0 f.1 in
        let low : f.0.price ≤ price = subst (λ (y : Entry). y.price ≤ price) f.4 x.below in
        record {
          entry = entry_at k.0.price f.2;
          within = entry_in known merged k.0 f.2 k.1 (ap (slice_get known) k.2 ∙ f.3);
          outline = sym (ap (λ (y : Entry). y.outline) f.4) ∙ x.outline;
          below = le_on k.0.price f.0.price price k.3 low;
        }

  -- tables of some kinds of components behind one another are one of both kinds
  pub both_have : (one other both : Outline → List ℕ → Type 0) (some more : List Priced) → HasThose b q at one known some → HasThose b q at other known more → ((o : Outline) (ns : List ℕ) → both o ns → one o ns ⊎ other o ns) → HasThose b q at both known (some ++ more)
  both_have one other both some more h k parts = record {
    numbers = each_append (λ (p : Priced). p.outline < length known) some more h.numbers k.numbers;
    right = subst (Each (IsEntry b q at)) (sym joined) (each_append (IsEntry b q at) (entries_of known some) (entries_of known more) h.right k.right);
    covers = λ o price c w. subst (λ es. HasBelow es o price) (sym joined) (elim (parts o c.numbers w) [
      | inl n ↦ let x = h.covers o price c n in record { entry = x.entry; within = in_left x.entry (entries_of known some) (entries_of known more) x.within; outline = x.outline; below = x.below }
      | inr n ↦ let x = k.covers o price c n in record { entry = x.entry; within = in_right x.entry (entries_of known some) (entries_of known more) x.within; outline = x.outline; below = x.below }
    ]);
  }
    where
      joined : entries_of known (some ++ more) ≡ entries_of known some ++ entries_of known more
      joined = entries_append known some more

  -- a table that misses no component is the position's
  pub table_of_all : (these : Outline → List ℕ → Type 0) (table : List Priced) → HasThose b q at these known table → ((o : Outline) (price : ℕ) (h : Outlined b q at o price) → these o h.numbers) → IsPricedTable b q at known table
  table_of_all these table h all = record {
    numbers = h.numbers;
    is = record {
      tabled = record {
        attained = each_by (IsEntry b q at) (λ (e : Entry). Outlined b q at e.outline e.price) (entries_of known table) (λ e i. i.outlined) h.right;
        covered = λ o price c. let x = h.covers o price c (all o price c) in (x.entry, x.within, x.outline, x.below);
      };
      rules = each_by (IsEntry b q at) (HasRule b) (entries_of known table) (λ e i. i.rule) h.right;
      within = each_by (IsEntry b q at) EntryWithin (entries_of known table) (λ e i. i.within) h.right;
    };
  }

-- they have the same as more outlines are known
pub have_more : (b : Book) (q : Request) (at : Position) (these : Outline → List ℕ → Type 0) (known more : List RuledOutline) (table : List Priced) → IsPrefix known more → HasThose b q at these known table → HasThose b q at these more table
have_more b q at these known more table prefix h = record {
  numbers = each_by (λ (p : Priced). p.outline < length known) (λ (p : Priced). p.outline < length more) table (λ p lt. subst (λ xs. p.outline < length xs) (sym prefix.1) (longer p.outline lt)) h.numbers;
  right = subst (Each (IsEntry b q at)) (sym same) h.right;
  covers = λ o price c w. subst (λ es. HasBelow es o price) (sym same) (h.covers o price c w);
}
  where
    same : entries_of more table ≡ entries_of known table
    same = entries_more known more prefix table h.numbers

    longer : (n : ℕ) → n < length known → n < length (known ++ prefix.0)
    longer n lt = let l = length-append known prefix.0 in omega (arith, lt, l)
