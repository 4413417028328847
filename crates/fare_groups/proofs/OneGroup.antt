-- Each row stands in one group, and what a group has. Given on to the crates above.
use Rattle.std.proofs.Common.{◌≡◌, ◌≢◌, ℕ, zero, suc, ◌+◌, ◌≤◌, List, [], ◌∷◌, map, slice_get, Some, refl, sym, ap, subst, ◌∙◌, inl, inr, arith}
use Rattle.std.proofs.lemmas.List.Sorted.{IsPermutation-sym}
use Rattle.fare_groups.specs.declared.group.FareGroup.{FareGroup}
use Rattle.fare_groups.specs.declared.group.GroupKey.{GroupKey}
use Rattle.fare_groups.specs.declared.group.GroupedFare.{GroupedFare}
use Rattle.fare_groups.specs.Grouping.{AreFares, AreRungs, ClassesAreLow, EachStandsOnce, FaresAreRows, AreGroups, HasRows, IsGroup, fare_at}
use Rattle.fare_groups.specs.Groups.{group_of}
use Rattle.fare_groups.proofs.Grouped.{keys_each}
use Rattle.fare_groups.proofs.Reordered.{in_reordered}
use Rattle.fare_law.specs.declared.sheets.SheetRow.{SheetRow}
use Rattle.fare_law.specs.Lists.{AllDifferent, Each, IsIn}
use Rattle.law_lemmas.proofs.EachOne.{each_from, each_in}
use Rattle.law_lemmas.proofs.Members.{got_in}
use Rattle.law_lemmas.proofs.Numbers.{none_plus}
use Rattle.law_lemmas.proofs.Options.{some_same}

plus_none : (n : ℕ) → n ≡ n + 0
plus_none n = omega arith

later : (n m : ℕ) → suc n + m ≡ n + suc m
later n m = omega arith

-- a fare of these is a row of theirs
record Row (key : GroupKey) (place : ℕ) (rows : List SheetRow) (f : GroupedFare) : Type 0 where
  n : ℕ
  row : SheetRow
  stands : slice_get rows n ≡ Some row
  key_is : group_of row ≡ key
  fare : f ≡ fare_at (place + n) row

next_row : (key : GroupKey) (place : ℕ) (r : SheetRow) (rows : List SheetRow) (f : GroupedFare) → Row key (suc place) rows f → Row key place (r ∷ rows) f
next_row key place r rows f x = record { n = suc x.n; row = x.row; stands = x.stands; key_is = x.key_is; fare = x.fare ∙ ap (λ n. fare_at n x.row) (later place x.n) }

row_of : (key : GroupKey) (place : ℕ) (rows : List SheetRow) (fares : List GroupedFare) (f : GroupedFare) → AreFares key place rows fares → IsIn f fares → Row key place rows f
row_of key place [] fares f h i = absurd (subst (IsIn f) h i)
row_of key place (r ∷ rows) fares f (inl (k, (more, is, rest))) i = elim (subst (IsIn f) is i) [
  | inl e ↦ record { n = 0; row = r; stands = refl; key_is = k; fare = e ∙ ap (λ n. fare_at n r) (plus_none place) }
  | inr j ↦ next_row key place r rows f (row_of key (suc place) rows more f rest j)
]
row_of key place (r ∷ rows) fares f (inr (k, rest)) i = next_row key place r rows f (row_of key (suc place) rows fares f rest i)

-- and each row of the key has one
pub fare_of_row : (key : GroupKey) (place : ℕ) (rows : List SheetRow) (fares : List GroupedFare) (n : ℕ) (row : SheetRow) → AreFares key place rows fares → slice_get rows n ≡ Some row → group_of row ≡ key → IsIn (fare_at (place + n) row) fares
fare_of_row key place [] fares n row h e k = cc
fare_of_row key place (r ∷ rows) fares zero row (inl (a, (more, is, rest))) e k =
    let same : row ≡ r = cc in
    subst (IsIn (fare_at (place + 0) row)) (sym is) (inl (ap (λ n. fare_at n row) (sym (plus_none place)) ∙ ap (fare_at place) same))
fare_of_row key place (r ∷ rows) fares (suc n) row (inl (a, (more, is, rest))) e k =
    subst (IsIn (fare_at (place + suc n) row)) (sym is) (inr (subst (λ m. IsIn (fare_at m row) more) (later place n) (fare_of_row key (suc place) rows more n row rest e k)))
fare_of_row key place (r ∷ rows) fares zero row (inr (a, rest)) e k =
    let same : r ≡ row = cc in
    absurd (a (ap group_of same ∙ k))
fare_of_row key place (r ∷ rows) fares (suc n) row (inr (a, rest)) e k = subst (λ m. IsIn (fare_at m row) fares) (later place n) (fare_of_row key (suc place) rows fares n row rest e k)

-- the classes of fares are those of their rows
pub low_fares : (key : GroupKey) (place : ℕ) (rows : List SheetRow) (fares : List GroupedFare) → Each (λ (row : SheetRow). row.fare.class ≤ 25) rows → AreFares key place rows fares → Each (λ (f : GroupedFare). f.class ≤ 25) fares
low_fares key place [] fares low h = subst (Each (λ (f : GroupedFare). f.class ≤ 25)) (sym h) tt
low_fares key place (r ∷ rows) fares low (inl (k, (more, is, rest))) = subst (Each (λ (f : GroupedFare). f.class ≤ 25)) (sym is) (low.0, low_fares key (suc place) rows more low.1 rest)
low_fares key place (r ∷ rows) fares low (inr (k, rest)) = low_fares key (suc place) rows fares low.1 rest

-- groups of one key are one
one_of_key : (groups : List FareGroup) (g h : FareGroup) → AllDifferent (map (λ g. g.key) groups) → IsIn g groups → IsIn h groups → g.key ≡ h.key → g ≡ h
one_of_key [] g h d i j e = absurd i
one_of_key (x ∷ groups) g h d (inl a) (inl b) e = a ∙ sym b
one_of_key (x ∷ groups) g h d (inl a) (inr j) e = absurd (each_in (λ y. x.key ≢ y.key) groups h (keys_each x.key groups d.0) j (sym (ap (λ y. y.key) a) ∙ e))
one_of_key (x ∷ groups) g h d (inr i) (inl b) e = absurd (each_in (λ y. x.key ≢ y.key) groups g (keys_each x.key groups d.0) i (sym (ap (λ y. y.key) b) ∙ sym e))
one_of_key (x ∷ groups) g h d (inr i) (inr j) e = one_of_key groups g h d.1 i j e

pub fares_are_rows : FaresAreRows
fares_are_rows rows groups h g i f j =
    let own = (each_in (IsGroup rows) groups g h.each i).fares in
    let x = row_of g.key 0 rows own.by_rows f own.are (in_reordered g.fares own.by_rows f (IsPermutation-sym own.by_rows g.fares own.same) j) in
    let place : f.place ≡ x.n = ap (λ y. y.place) x.fare ∙ none_plus x.n in
    record {
      row = x.row;
      stands = subst (λ n. slice_get rows n ≡ Some x.row) (sym place) x.stands;
      key_is = x.key_is;
      fare = x.fare ∙ ap (λ n. fare_at n x.row) (none_plus x.n ∙ sym place);
    }

-- so each group has rows
pub group_rows : (rows : List SheetRow) (groups : List FareGroup) → AreGroups rows groups → (g : FareGroup) → IsIn g groups → HasRows rows g
group_rows rows groups h g i = record {
  some = (each_in (IsGroup rows) groups g h.each i).some;
  are = λ f j. let x = fares_are_rows rows groups h g i f j in (x.row, x.stands, x.key_is);
}

-- and the cheapest of its classes
pub group_rungs : (rows : List SheetRow) (groups : List FareGroup) → AreGroups rows groups → (g : FareGroup) → IsIn g groups → AreRungs g.fares g.rungs
group_rungs rows groups h g i = (each_in (IsGroup rows) groups g h.each i).rungs

pub each_stands_once : EachStandsOnce
each_stands_once rows groups h place row stands =
    let k = h.all row (got_in rows place row stands) in
    let g = k.0 in
    let own = (each_in (IsGroup rows) groups g h.each k.1).fares in
    record {
      group = g;
      within = k.1;
      key = k.2;
      stands = in_reordered own.by_rows g.fares (fare_at place row) own.same (subst (λ n. IsIn (fare_at n row) own.by_rows) (none_plus place) (fare_of_row g.key 0 rows own.by_rows place row own.are stands (sym k.2)));
      only = λ other i j.
          let x = fares_are_rows rows groups h other i (fare_at place row) j in
          let same : x.row ≡ row = some_same x.row row (sym x.stands ∙ stands) in
          one_of_key groups other g h.apart i k.1 (sym x.key_is ∙ ap group_of same ∙ sym k.2);
    }

pub classes_are_low : ClassesAreLow
classes_are_low rows groups h low = each_from (λ (g : FareGroup). Each (λ f. f.class ≤ 25) g.fares) groups (λ g i. each_from (λ (f : GroupedFare). f.class ≤ 25) g.fares (λ f j.
    let x = fares_are_rows rows groups h g i f j in
    subst (λ n. n ≤ 25) (sym (ap (λ y. y.class) x.fare)) (each_in (λ (r : SheetRow). r.fare.class ≤ 25) rows x.row low (got_in rows f.place x.row x.stands))))
