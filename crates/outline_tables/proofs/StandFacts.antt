-- Where outlines stand in the merge in hand.
use Rattle.std.proofs.Common.{◌≡◌, ℕ, zero, suc, ◌≤◌, List, [], ◌∷◌, ◌++◌, map, set, slice_get, Some, refl, sym, ap, subst, ◌∙◌, inl, inr}
use Rattle.fare_law.specs.Lists.{AllDifferent, IsIn}
use Rattle.law_lemmas.proofs.Lists.{map_end}
use Rattle.law_lemmas.proofs.Members.{got_in, in_either, in_left, in_right}
use Rattle.law_lemmas.proofs.Numbers.{le_itself}
use Rattle.law_lemmas.proofs.Options.{some_same}
use Rattle.law_lemmas.proofs.Pairs.{differ_more}
use Rattle.outline_tables.specs.declared.outline_numbers.Priced.{Priced}
use Rattle.outline_tables.specs.Merges.{HasPriced, PutsIn}
use Rattle.outline_tables.proofs.Putting.{set_in, set_keeps, set_only}

itself : (table : List Priced) (p : Priced) → IsIn p table → HasPriced table p.outline p.price
itself table p i = (p, i, refl, le_itself p.price)

-- an outline that stands there at a price that is no higher
pub puts_none : (x : Priced) (table : List Priced) (at : ℕ) (p : Priced) → slice_get table at ≡ Some p → p.outline ≡ x.outline → p.price ≤ x.price → PutsIn x table table
puts_none x table at p e o le = record {
  has = (p, got_in table at p e, o, le);
  keeps = itself table;
  only = λ y i. inl i;
  once = λ h. h;
}

outlines_set : (table : List Priced) (at : ℕ) (p x : Priced) → slice_get table at ≡ Some p → p.outline ≡ x.outline → map (λ (p : Priced). p.outline) (set table at x) ≡ map (λ (p : Priced). p.outline) table
outlines_set [] at p x e o = refl
outlines_set (y ∷ ys) zero p x e o = ap (λ n. n ∷ map (λ (p : Priced). p.outline) ys) (sym o ∙ sym (ap (λ (z : Priced). z.outline) (some_same y p e)))
outlines_set (y ∷ ys) (suc at) p x e o = ap (λ ns. y.outline ∷ ns) (outlines_set ys at p x e o)

-- one that stands at a higher price
pub puts_lower : (x : Priced) (table : List Priced) (at : ℕ) (p : Priced) → slice_get table at ≡ Some p → p.outline ≡ x.outline → x.price ≤ p.price → PutsIn x table (set table at x)
puts_lower x table at p e o le = record {
  has = itself (set table at x) x (set_in table at p x e);
  keeps = λ y i. elim (set_keeps table at p x y e i) [
    | inl k ↦ itself (set table at x) y k
    | inr s ↦ (x, set_in table at p x e, sym o ∙ sym (ap (λ (z : Priced). z.outline) s), subst (λ (z : Priced). x.price ≤ z.price) (sym s) le)
  ];
  only = λ y i. set_only table at x y i;
  once = λ h. subst AllDifferent (sym (outlines_set table at p x e o)) h;
}

abbrev pub priced : ℕ → ℕ → Priced
priced n k = record { outline = n; price = k }

-- its price is set
pub puts_price : (x : Priced) (table : List Priced) (at : ℕ) (p : Priced) → slice_get table at ≡ Some p → p.outline ≡ x.outline → x.price ≤ p.price → PutsIn x table (set table at (record { outline = p.outline; price = x.price }))
puts_price x table at p e o le = subst (λ y. PutsIn x table (set table at y)) (ap (λ n. priced n x.price) (sym o)) (puts_lower x table at p e o le)

-- and one that doesn't stand there
pub puts_last : (x : Priced) (table : List Priced) → ((p : Priced) → IsIn p table → p.outline ≡ x.outline → ⊥) → PutsIn x table (table ++ x ∷ [])
puts_last x table none = record {
  has = itself (table ++ x ∷ []) x (in_right x table (x ∷ []) (inl refl));
  keeps = λ y i. itself (table ++ x ∷ []) y (in_left y table (x ∷ []) i);
  only = λ y i. elim (in_either y table (x ∷ []) i) [ inl k ↦ inl k | inr k ↦ elim k [ inl e ↦ inr e | inr n ↦ absurd n ] ];
  once = λ h. subst AllDifferent (sym (map_end (λ (p : Priced). p.outline) table x)) (differ_more (map (λ (p : Priced). p.outline) table) x.outline h (λ i. absent table none i));
}
  where
    absent : (ps : List Priced) → ((p : Priced) → IsIn p ps → p.outline ≡ x.outline → ⊥) → IsIn x.outline (map (λ (p : Priced). p.outline) ps) → ⊥
    absent [] k i = i
    absent (p ∷ ps) k (inl e) = k p (inl refl) (sym e)
    absent (p ∷ ps) k (inr i) = absent ps (λ q j. k q (inr j)) i
