-- Tables merged, entry by entry.
use Rattle.std.proofs.Common.{List, [], ◌∷◌, ◌++◌, refl, sym, subst, ◌∙◌, inl, inr}
use Rattle.fare_law.specs.Lists.{IsIn}
use Rattle.law_lemmas.proofs.Members.{in_either, in_left, in_one, in_right}
use Rattle.law_lemmas.proofs.Numbers.{le_on}
use Rattle.outline_tables.specs.declared.outline_numbers.Priced.{Priced}
use Rattle.outline_tables.specs.Merges.{HasPriced, IsLeastMerge, PutsIn}

pub merge_none : IsLeastMerge [] []
merge_none = record { once = tt; has = λ table i p j. absurd i; only = λ m i. absurd i }

-- a table with no entries
pub merge_empty : (tables : List (List Priced)) (old : List Priced) → IsLeastMerge tables old → IsLeastMerge (tables ++ [] ∷ []) old
merge_empty tables old m = record {
  once = m.once;
  has = λ table i p j. elim (in_either table tables ([] ∷ []) i) [
    | inl k ↦ m.has table k p j
    | inr k ↦ absurd (subst (IsIn p) (in_one table [] k) j)
  ];
  only = λ x i. let h = m.only x i in (h.0, in_left h.0 tables ([] ∷ []) h.1, h.2);
}

-- and one entry more of it
pub merge_more : (tables : List (List Priced)) (some : List Priced) (x : Priced) (old new : List Priced) → PutsIn x old new → IsLeastMerge (tables ++ some ∷ []) old → IsLeastMerge (tables ++ (some ++ x ∷ []) ∷ []) new
merge_more tables some x old new put m = record {
  once = put.once m.once;
  has = λ table i p j. elim (in_either table tables ((some ++ x ∷ []) ∷ []) i) [
    | inl k ↦ kept p (m.has table (in_left table tables (some ∷ []) k) p j)
    | inr k ↦ elim (in_either p some (x ∷ []) (subst (IsIn p) (in_one table (some ++ x ∷ []) k) j)) [
      | inl n ↦ kept p (m.has some (in_right some tables (some ∷ []) (inl refl)) p n)
      | inr n ↦ subst (λ (y : Priced). HasPriced new y.outline y.price) (sym (in_one p x n)) put.has
    ]
  ];
  only = λ y i. elim (put.only y i) [
    | inl k ↦ of_old y k
    | inr e ↦ (some ++ x ∷ [], in_right (some ++ x ∷ []) tables ((some ++ x ∷ []) ∷ []) (inl refl), in_right y some (x ∷ []) (inl e))
  ];
}
  where
    kept : (p : Priced) → HasPriced old p.outline p.price → HasPriced new p.outline p.price
    kept p h = let k = put.keeps h.0 h.1 in (k.0, k.1, k.2 ∙ h.2, le_on k.0.price h.0.price p.price k.3 h.3)

    of_old : (y : Priced) → IsIn y old → (table : List Priced) × IsIn table (tables ++ (some ++ x ∷ []) ∷ []) × IsIn y table
    of_old y k =
        let h = m.only y k in
        elim (in_either h.0 tables (some ∷ []) h.1) [
          | inl n ↦ (h.0, in_left h.0 tables ((some ++ x ∷ []) ∷ []) n, h.2)
          | inr n ↦ (some ++ x ∷ [], in_right (some ++ x ∷ []) tables ((some ++ x ∷ []) ∷ []) (inl refl), in_left y some (x ∷ []) (subst (IsIn y) (in_one h.0 some n) h.2))
        ]
