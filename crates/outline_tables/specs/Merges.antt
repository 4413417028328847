-- Tables merged.
use Rattle.std.specs.Prelude.{◌≡◌, ◌⊎◌, ◌≤◌, ℕ, List, map, slice_get, Some}
use Rattle.fare_law.specs.Lists.{AllDifferent, IsIn}
use Rattle.outline_tables.specs.declared.merging.Merging.{Merging}
use Rattle.outline_tables.specs.declared.merging.Stand.{Stand}
use Rattle.outline_tables.specs.declared.outline_numbers.Priced.{Priced}

-- the outline stands in a table at this price or less
abbrev pub HasPriced : List Priced → ℕ → ℕ → Type 0
HasPriced table outline price = (m : Priced) × IsIn m table × (m.outline ≡ outline) × (m.price ≤ price)

-- The least merge of some tables: each outline that one of them has stands once, at the least of its prices, and no other.
pub record IsLeastMerge (tables : List (List Priced)) (merged : List Priced) : Type 0 where
  pub once : AllDifferent (map (λ (p : Priced). p.outline) merged)
  pub has : (table : List Priced) → IsIn table tables → (p : Priced) → IsIn p table → HasPriced merged p.outline p.price
  pub only : (m : Priced) → IsIn m merged → (table : List Priced) × IsIn table tables × IsIn m table

-- where an outline stands in the merge in hand, if its number says so
abbrev pub StandsRightly : Merging → ℕ → Stand → Type 0
StandsRightly m outline s = (s.merge ≤ m.merge) × (s.merge ≡ m.merge → (p : Priced) × (slice_get m.table.items s.at ≡ Some p) × (p.outline ≡ outline))

-- Each outline of the table stands where its number says, and none is said to stand elsewhere.
pub record IsMerging (m : Merging) : Type 0 where
  pub some : 1 ≤ m.merge
  pub said : (outline : ℕ) (s : Stand) → slice_get m.stands.items outline ≡ Some s → StandsRightly m outline s
  pub there : (at : ℕ) (p : Priced) → slice_get m.table.items at ≡ Some p → slice_get m.stands.items p.outline ≡ Some (record { merge = m.merge; at = at })

-- An outline was put in at a price: it stands there at no more, as does each other at its own, and nothing else is new. No two are one, if none were.
pub record PutsIn (x : Priced) (old new : List Priced) : Type 0 where
  pub has : HasPriced new x.outline x.price
  pub keeps : (p : Priced) → IsIn p old → HasPriced new p.outline p.price
  pub only : (p : Priced) → IsIn p new → IsIn p old ⊎ (p ≡ x)
  pub once : AllDifferent (map (λ (p : Priced). p.outline) old) → AllDifferent (map (λ (p : Priced). p.outline) new)
