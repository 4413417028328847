-- Groups, as their fares are gathered row by row. Given on to the crates above.
use Rattle.std.proofs.Common.{◌≡◌, ◌≢◌, ◌⊎◌, ℕ, zero, suc, ◌+◌, ◌<◌, List, [], ◌∷◌, ◌++◌, length, map, set, take, get_or, slice_get, Some, refl, sym, ap, ap₂, subst, ◌∙◌, inl, inr, arith}
use Rattle.fare_groups.specs.declared.group.FareGroup.{FareGroup}
use Rattle.fare_groups.specs.declared.group.GroupKey.{GroupKey}
use Rattle.fare_groups.specs.declared.group.GroupedFare.{GroupedFare}
use Rattle.fare_groups.specs.Grouping.{AreFares, AreGathered, AreKeys, Put, empty_group, fare_at}
use Rattle.fare_groups.specs.Groups.{group_of}
use Rattle.fare_groups.proofs.Reordered.{of_mapped}
use Rattle.fare_law.specs.declared.sheets.SheetRow.{SheetRow}
use Rattle.fare_law.specs.Lists.{AllDifferent, Each, IsIn}
use Rattle.law_lemmas.proofs.EachOne.{each_from, each_in}
use Rattle.law_lemmas.proofs.Lists.{front_length, front_read}
use Rattle.law_lemmas.proofs.Members.{in_left, in_right, read_in}
use Rattle.law_lemmas.proofs.Numbers.{none_plus}

-- the fares of a group, with one row more
fares_in : (key : GroupKey) (place : ℕ) (rows : List SheetRow) (row : SheetRow) (fares : List GroupedFare) → AreFares key place rows fares → group_of row ≡ key → AreFares key place (rows ++ row ∷ []) (fares ++ fare_at (place + length rows) row ∷ [])
fares_in key place [] row fares h e =
    let here : fare_at (place + 0) row ≡ fare_at place row = ap (λ n. fare_at n row) (plus_none place) in
    inl (e, ([], ap₂ (λ xs f. xs ++ f ∷ []) h here, refl))
  where
    plus_none : (n : ℕ) → n + 0 ≡ n
    plus_none n = omega arith
fares_in key place (r ∷ rows) row fares (inl (k, (more, is, rest))) e =
    inl (k, (more ++ fare_at (suc place + length rows) row ∷ [], ap₂ (λ xs n. xs ++ fare_at n row ∷ []) is (later place (length rows)), fares_in key (suc place) rows row more rest e))
  where
    later : (n m : ℕ) → n + suc m ≡ suc n + m
    later n m = omega arith
fares_in key place (r ∷ rows) row fares (inr (k, rest)) e =
    inr (k, subst (λ n. AreFares key (suc place) (rows ++ row ∷ []) (fares ++ fare_at n row ∷ [])) (sym (later place (length rows))) (fares_in key (suc place) rows row fares rest e))
  where
    later : (n m : ℕ) → n + suc m ≡ suc n + m
    later n m = omega arith

fares_out : (key : GroupKey) (place : ℕ) (rows : List SheetRow) (row : SheetRow) (fares : List GroupedFare) → AreFares key place rows fares → group_of row ≢ key → AreFares key place (rows ++ row ∷ []) fares
fares_out key place [] row fares h ne = inr (ne, h)
fares_out key place (r ∷ rows) row fares (inl (k, (more, is, rest))) ne = inl (k, (more, is, fares_out key (suc place) rows row more rest ne))
fares_out key place (r ∷ rows) row fares (inr (k, rest)) ne = inr (k, fares_out key (suc place) rows row fares rest ne)

fares_none : (key : GroupKey) (place : ℕ) (rows : List SheetRow) → ((row : SheetRow) → IsIn row rows → group_of row ≢ key) → AreFares key place rows []
fares_none key place [] h = refl
fares_none key place (r ∷ rows) h = inr (h r (inl refl), fares_none key (suc place) rows (λ x i. h x (inr i)))

-- a list at one of its places
record Split (groups : List FareGroup) (at : ℕ) (g : FareGroup) : Type 0 where
  front : List FareGroup
  back : List FareGroup
  whole : groups ≡ front ++ g ∷ back
  changed : (h : FareGroup) → set groups at h ≡ front ++ h ∷ back

split : (groups : List FareGroup) (at : ℕ) (g : FareGroup) → slice_get groups at ≡ Some g → Split groups at g
split [] at g e = cc
split (x ∷ groups) zero g e = let same : x ≡ g = cc in record { front = []; back = groups; whole = ap (λ y. y ∷ groups) same; changed = λ h. refl }
split (x ∷ groups) (suc at) g e =
    let r = split groups at g e in
    record { front = x ∷ r.front; back = r.back; whole = ap (λ ys. x ∷ ys) r.whole; changed = λ h. ap (λ ys. x ∷ ys) (r.changed h) }

-- keys that differ
pub keys_each : (key : GroupKey) (groups : List FareGroup) → Each (λ k. key ≢ k) (map (λ g. g.key) groups) → Each (λ g. key ≢ g.key) groups
keys_each key [] h = tt
keys_each key (g ∷ groups) h = (h.0, keys_each key groups h.1)

each_keys : (key : GroupKey) (groups : List FareGroup) → Each (λ g. key ≢ g.key) groups → Each (λ k. key ≢ k) (map (λ g. g.key) groups)
each_keys key [] h = tt
each_keys key (g ∷ groups) h = (h.0, each_keys key groups h.1)

pub key_in : (groups : List FareGroup) (key : GroupKey) → IsIn key (map (λ g. g.key) groups) → (g : FareGroup) × IsIn g groups × (g.key ≡ key)
key_in groups key i = let r = of_mapped (λ (g : FareGroup). g.key) groups key i in (r.0, r.1, sym r.2)

differ_from : (g : FareGroup) (front back : List FareGroup) → AllDifferent (map (λ g. g.key) (front ++ g ∷ back)) → (h : FareGroup) → IsIn h front ⊎ IsIn h back → h.key ≢ g.key
differ_from g [] back d h (inl i) = absurd i
differ_from g [] back d h (inr i) = λ e. each_in (λ x. g.key ≢ x.key) back h (keys_each g.key back d.0) i (sym e)
differ_from g (x ∷ front) back d h (inl (inl same)) = λ e. each_in (λ y. x.key ≢ y.key) (front ++ g ∷ back) g (keys_each x.key (front ++ g ∷ back) d.0) (in_right g front (g ∷ back) (inl refl)) (sym (ap (λ y. y.key) same) ∙ e)
differ_from g (x ∷ front) back d h (inl (inr i)) = differ_from g front back d.1 h (inl i)
differ_from g (x ∷ front) back d h (inr i) = differ_from g front back d.1 h (inr i)

keys_same : (g h : FareGroup) (front back : List FareGroup) → g.key ≡ h.key → map (λ g. g.key) (front ++ g ∷ back) ≡ map (λ g. g.key) (front ++ h ∷ back)
keys_same g h [] back e = ap (λ k. k ∷ map (λ g. g.key) back) e
keys_same g h (x ∷ front) back e = ap (λ ks. x.key ∷ ks) (keys_same g h front back e)

in_mid : (x g h : FareGroup) (front back : List FareGroup) → IsIn x (front ++ g ∷ back) → (IsIn x front ⊎ IsIn x back) ⊎ (x ≡ g)
in_mid x g h [] back (inl e) = inr e
in_mid x g h [] back (inr i) = inl (inr i)
in_mid x g h (y ∷ front) back (inl e) = inl (inl (inl e))
in_mid x g h (y ∷ front) back (inr i) = elim (in_mid x g h front back i) [ inl k ↦ elim k [ inl a ↦ inl (inl (inr a)) | inr a ↦ inl (inr a) ] | inr e ↦ inr e ]

mid_in : (x g : FareGroup) (front back : List FareGroup) → IsIn x front ⊎ IsIn x back → IsIn x (front ++ g ∷ back)
mid_in x g front back (inl i) = in_left x front (g ∷ back) i
mid_in x g front back (inr i) = in_right x front (g ∷ back) (inr i)

-- a group of another key keeps its fares, and that of the key has one more
gains : (rows : List SheetRow) (row : SheetRow) (key : GroupKey) (fares : List GroupedFare) → AreFares key 0 rows fares → key ≡ group_of row → AreFares key 0 (rows ++ row ∷ []) (fares ++ fare_at (length rows) row ∷ [])
gains rows row key fares h e = subst (λ n. AreFares key 0 (rows ++ row ∷ []) (fares ++ fare_at n row ∷ [])) (none_plus (length rows)) (fares_in key 0 rows row fares h (sym e))

module _ (keys : List GroupKey) (differ : AllDifferent keys) (rows : List SheetRow) (row : SheetRow) (old : List FareGroup) (h : AreGathered keys rows old) where
  grown : (new : List FareGroup) (at : ℕ) (g : FareGroup) → slice_get old at ≡ Some g → g.key ≡ group_of row
      → new ≡ set old at (record { key = g.key; fares = g.fares ++ fare_at (length rows) row ∷ []; rungs = g.rungs }) → AreGathered keys (rows ++ row ∷ []) new
  grown new at g stands key_is is = subst (AreGathered keys (rows ++ row ∷ [])) (sym (is ∙ s.changed more)) (record {
    keys_are = sym (keys_same g more s.front s.back refl) ∙ sym (ap (map (λ x. x.key)) s.whole) ∙ h.keys_are;
    each = each_from (λ x. AreFares x.key 0 (rows ++ row ∷ []) x.fares) (s.front ++ more ∷ s.back) (λ x i. each_one x (in_mid x more g s.front s.back i));
  })
    where
      s : Split old at g
      s = split old at g stands

      more : FareGroup
      more = record { key = g.key; fares = g.fares ++ fare_at (length rows) row ∷ []; rungs = g.rungs }

      each : Each (λ (x : FareGroup). AreFares x.key 0 rows x.fares) (s.front ++ g ∷ s.back)
      each = subst (Each (λ x. AreFares x.key 0 rows x.fares)) s.whole h.each

      apart : AllDifferent (map (λ x. x.key) (s.front ++ g ∷ s.back))
      apart = subst AllDifferent (sym h.keys_are ∙ ap (map (λ x. x.key)) s.whole) differ

      each_one : (x : FareGroup) → (IsIn x s.front ⊎ IsIn x s.back) ⊎ (x ≡ more) → AreFares x.key 0 (rows ++ row ∷ []) x.fares
      each_one x (inl i) = fares_out x.key 0 rows row x.fares (each_in (λ (y : FareGroup). AreFares y.key 0 rows y.fares) (s.front ++ g ∷ s.back) x each (mid_in x g s.front s.back i)) (λ e. differ_from g s.front s.back apart x i (sym e ∙ sym key_is))
      each_one x (inr e) = subst (λ (y : FareGroup). AreFares y.key 0 (rows ++ row ∷ []) y.fares) (sym e) (gains rows row g.key g.fares (each_in (λ (y : FareGroup). AreFares y.key 0 rows y.fares) (s.front ++ g ∷ s.back) g each (in_right g s.front (g ∷ s.back) (inl refl))) key_is)

  put_more : IsIn (group_of row) keys → (new : List FareGroup) → Put (group_of row) (fare_at (length rows) row) old new → AreGathered keys (rows ++ row ∷ []) new
  put_more i new (inl absent) = let k = key_in old (group_of row) (subst (IsIn (group_of row)) (sym h.keys_are) i) in absurd (each_in (λ (x : FareGroup). x.key ≢ group_of row) old k.0 absent k.1 k.2)
  put_more i new (inr (at, g, stands, key_is, is)) = grown new at g stands key_is is

none_gathered : (keys : List GroupKey) → Each (λ g. AreFares g.key 0 [] g.fares) (map empty_group keys)
none_gathered [] = tt
none_gathered (key ∷ keys) = (refl, none_gathered keys)

none_keys : (keys : List GroupKey) → map (λ (g : FareGroup). g.key) (map empty_group keys) ≡ keys
none_keys [] = refl
none_keys (key ∷ keys) = ap (λ ks. key ∷ ks) (none_keys keys)

pub gathered_none : (keys : List GroupKey) (groups : List FareGroup) → groups ≡ map empty_group keys → AreGathered keys [] groups
gathered_none keys groups e = subst (AreGathered keys []) (sym e) (record { keys_are = none_keys keys; each = none_gathered keys })

-- row by row
pub rows_more : (keys : List GroupKey) (rows : List SheetRow) (i : ℕ) (d row : SheetRow) (key : GroupKey) (fare : GroupedFare) (old new : List FareGroup) → AreKeys rows keys → i < length rows → row ≡ get_or rows i d → key ≡ group_of row → fare ≡ fare_at i row
    → AreGathered keys (take i rows) old → Put key fare old new → AreGathered keys (take (i + 1) rows) new
rows_more keys rows i d row key fare old new of lt is k f h p =
    subst (λ rs. AreGathered keys rs new) (sym (front_read rows i d row lt is))
    (put_more keys of.apart (take i rows) row old h (of.all row (read_in rows i d row lt is)) new
    (subst (λ n. Put (group_of row) (fare_at n row) old new) (sym (front_length rows i lt)) (subst (λ x. Put (group_of row) x old new) f (subst (λ x. Put x fare old new) k p))))
