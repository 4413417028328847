-- Rows that are chained by the spots of their keys: what is looked for stands in the chain of its spot. Cited by the answers of `table`.
use Rattle.std.proofs.Common.{◌≡◌, ◌≢◌, ◌⊎◌, ◌∙◌, ℕ, zero, suc, ◌+◌, ◌-◌, ◌<◌, ◌≤◌, Bool, true, false, cond, nat_lt, List, [], ◌∷◌, ◌++◌, map, length, get_or, slice_index, set, replicate, position, Option, Some, None, IsPermutation, refl, sym, ap, subst, arith, lt-ltb, le-ltb, true≢false, inl, inr, if◌then◌else◌, is_some, ◌||◌}
use Rattle.std.specs.Cmp.{IsEquivalence}
use Rattle.std.specs.List.{IsDistinct, list_any, position_or_len}
use Rattle.std.specs.Map.{keys_of, lookup}
use Rattle.std.proofs.lemmas.Bool.Decides.{eqb_tells}
use Rattle.std.proofs.lemmas.List.{get_or-map, get_or-replicate, get_or_append_left, length-replicate}
use Rattle.std.proofs.lemmas.List.Sorted.{IsPermutation-map, length_permutation}
use Rattle.std.proofs.Math.Seq.{get_or-append_seam}
use Rattle.std.proofs.lemmas.List.Sums.{position_or_len_is}
use Rattle.std.proofs.lemmas.Map.Entries.{length-keys_of}
use Rattle.std.proofs.lemmas.Map.Keys.{apart_from_distinct, IsDistinct-IsPermutation, IsDistinct-push, IsDistinct-tail}
use Rattle.indexmap.proofs.MapLemmas.{reordered}
use Rattle.indexmap.specs.IndexMap.{insert_entry}
use Rattle.indexmap.specs.Layout.{hash_map}
use Rattle.graph_walk.specs.Rows.{AreChained, IsAt, IsLast, IsNowhere, IsTable, spot_of, spots_of}

-- where nothing is chained, no head stands
pub none_chained : (spots links : List ℕ) (count : ℕ) → AreChained spots 0 links (replicate count 0)
none_chained spots links count = record {
  linked = λ place h. absurd (omega (arith, h));
  headed = λ spot h. let many : length (replicate count 0) ≡ count = length-replicate {A = ℕ} count 0 in subst (IsLast spots 0 spot) (sym (get_or-replicate count spot 0 0 (omega (arith, h, many)))) (record {
    within = omega arith;
    has = λ place e. absurd (omega (arith, e));
    none = λ place l h. absurd (omega (arith, h));
  });
}

-- rows and links after the chained ones change nothing
pub still_chained : (spots more links links' heads : List ℕ) (count : ℕ) → count ≤ length spots → count ≤ length links → AreChained spots count links heads → AreChained (spots ++ more) count (links ++ links') heads
still_chained spots more links links' heads count few many c = record {
  linked = λ p h.
      let s : slice_index (spots ++ more) p ≡ slice_index spots p = get_or_append_left spots more 0 p (omega (arith, h, few)) in
      let l : slice_index (links ++ links') p ≡ slice_index links p = get_or_append_left links links' 0 p (omega (arith, h, many)) in
      subst (λ z. IsLast (spots ++ more) p z (slice_index (links ++ links') p)) (sym s) (subst (IsLast (spots ++ more) p (slice_index spots p)) (sym l) (last_of p (slice_index spots p) (slice_index links p) (omega (arith, h)) (c.linked p h)));
  headed = λ s h. last_of count s (slice_index heads s) (omega arith) (c.headed s h);
}
  where
    last_of : (before spot last : ℕ) → before ≤ count → IsLast spots before spot last → IsLast (spots ++ more) before spot last
    last_of before spot last up l = record {
      within = l.within;
      has = λ p e. let w = l.within in get_or_append_left spots more 0 p (omega (arith, e, w, up, few)) ∙ l.has p e;
      none = λ p from h. λ at. l.none p from h (sym (get_or_append_left spots more 0 p (omega (arith, h, up, few))) ∙ at);
    }

-- the spot of a row's key
pub spot_at : {K : Type 0} (number : K → ℕ) (count : ℕ) (rows : List (K × Option ℕ)) (place : ℕ) (d : K) → place < length rows → slice_index (spots_of number count rows) place ≡ spot_of count (number (get_or (keys_of rows) place d))
spot_at number count [] place d h = absurd (omega (arith, h))
spot_at number count (r ∷ rows) zero d h = refl
spot_at number count (r ∷ rows) (suc place) d h = spot_at number count rows place d (omega (arith, h))

pub key_at : {K : Type 0} (rows : List (K × Option ℕ)) (place : ℕ) (row : K × Option ℕ) (d : K) → place < length rows → row ≡ get_or rows place row → get_or (keys_of rows) place d ≡ row.0
key_at rows place row d h is = get_or-map (λ r. r.0) rows place row d h ∙ sym (ap (λ r. r.0) is)

pub row_spot : {K : Type 0} (number : K → ℕ) (count : ℕ) (rows : List (K × Option ℕ)) (place : ℕ) (row : K × Option ℕ) → place < length rows → row ≡ get_or rows place row → slice_index (spots_of number count rows) place ≡ spot_of count (number row.0)
row_spot number count rows place row h is = spot_at number count rows place row.0 h ∙ ap (λ k. spot_of count (number k)) (key_at rows place row row.0 h is)

-- keys that differ in their spots differ
pub other_key : {K : Type 0} (eq : K → K → Bool) (number : K → ℕ) (respects : (k l : K) → eq k l ≡ true → number k ≡ number l) (count : ℕ) (key other : K) → spot_of count (number other) ≢ spot_of count (number key) → eq key other ≡ false
other_key eq number respects count key other apart = by (eq key other) refl
  where
    by : (b : Bool) → eq key other ≡ b → eq key other ≡ false
    by false e = e
    by true e = absurd (apart (sym (ap (spot_of count) (respects key other e))))

module _ {K : Type 0} (eq : K → K → Bool) (laws : IsEquivalence eq) (key : K) where
  -- where keys differ, the one that is equal to this is the first
  pub found_at : (rows : List (K × Option ℕ)) (i : ℕ) → IsDistinct eq (keys_of rows) → IsAt eq key rows i → position (eq key) (keys_of rows) ≡ Some i
  found_at rows i differ at =
      let ks = keys_of rows in
      let many = length-keys_of rows in
      let inside : i < length ks = let w = at.0 in omega (arith, w, many) in
      let is : position_or_len (eq key) ks ≡ i = position_or_len_is (eq key) ks i key (omega (arith, inside)) (λ k lt. by k lt inside (eq key (get_or ks k key)) refl) (λ _. at.1) in
      ap (λ n. cond (nat_lt n (length ks)) (Some n) None) is ∙ ap (λ b. cond b (Some i) None) (lt-ltb i (length ks) inside)
    where
      by : (k : ℕ) → k < i → i < length (keys_of rows) → (b : Bool) → eq key (get_or (keys_of rows) k key) ≡ b → eq key (get_or (keys_of rows) k key) ≡ false
      by k lt inside false e = e
      by k lt inside true e =
          let apart : eq (get_or (keys_of rows) k key) (get_or (keys_of rows) i key) ≡ false = apart_from_distinct eq (keys_of rows) k i key differ lt inside in
          absurd (true≢false (sym at.1 ∙ laws.congr key (get_or (keys_of rows) k key) (get_or (keys_of rows) i key) e ∙ apart))

  pub found_nowhere : (rows : List (K × Option ℕ)) → IsNowhere eq key rows → position (eq key) (keys_of rows) ≡ None
  found_nowhere rows none =
      let ks = keys_of rows in
      let many = length-keys_of rows in
      let is : position_or_len (eq key) ks ≡ length ks = position_or_len_is (eq key) ks (length ks) key (omega arith) (λ k lt. none k (omega (arith, lt, many))) (λ h. absurd (omega (arith, h))) in
      ap (λ n. cond (nat_lt n (length ks)) (Some n) None) is ∙ ap (λ b. cond b (Some (length ks)) None) (le-ltb (length ks) (length ks) (omega arith))

  -- the rows before it have other keys
  pub head_differs : (r : K × Option ℕ) (rows : List (K × Option ℕ)) (i : ℕ) → IsDistinct eq (keys_of (r ∷ rows)) → IsAt eq key (r ∷ rows) (suc i) → eq key r.0 ≡ false
  head_differs r rows i differ at = by (eq key r.0) refl
    where
      by : (b : Bool) → eq key r.0 ≡ b → eq key r.0 ≡ false
      by false e = e
      by true e =
          let w = at.0 in
          let many = length-keys_of rows in
          let apart : eq r.0 (get_or (keys_of rows) i key) ≡ false = apart_from_distinct eq (keys_of (r ∷ rows)) 0 (suc i) key differ (omega arith) (omega (arith, w, many)) in
          absurd (true≢false (sym at.1 ∙ laws.congr key r.0 (get_or (keys_of rows) i key) e ∙ apart))

  at_rest : (r : K × Option ℕ) (rows : List (K × Option ℕ)) (i : ℕ) → IsAt eq key (r ∷ rows) (suc i) → IsAt eq key rows i
  at_rest r rows i at = let w = at.0 in (omega (arith, w), at.1)

  -- and the bound is that of its row
  pub looked_up : (rows : List (K × Option ℕ)) (i : ℕ) (d : K × Option ℕ) → IsDistinct eq (keys_of rows) → IsAt eq key rows i → lookup (eq key) rows ≡ Some (get_or rows i d).1
  looked_up [] i d differ at = let w = at.0 in absurd (omega (arith, w))
  looked_up (r ∷ rows) zero d differ at = ap (λ b. cond b (Some r.1) (lookup (eq key) rows)) at.1
  looked_up (r ∷ rows) (suc i) d differ at =
      ap (λ b. cond b (Some r.1) (lookup (eq key) rows)) (head_differs r rows i differ at) ∙ looked_up rows i d (IsDistinct-tail eq r.0 (keys_of rows) differ) (at_rest r rows i at)

  pub looked_nowhere : (rows : List (K × Option ℕ)) → IsNowhere eq key rows → lookup (eq key) rows ≡ None
  looked_nowhere [] none = refl
  looked_nowhere (r ∷ rows) none = ap (λ b. cond b (Some r.1) (lookup (eq key) rows)) (none 0 (omega arith)) ∙ looked_nowhere rows (λ p h. none (suc p) (omega (arith, h)))

  -- a bound that is put into the row
  pub set_is : (bound : Option ℕ) (rows : List (K × Option ℕ)) (i : ℕ) (row : K × Option ℕ) → row ≡ get_or rows i row → IsDistinct eq (keys_of rows) → IsAt eq key rows i → set rows i (row.0, bound) ≡ insert_entry eq rows key bound
  set_is bound [] i row is differ at = let w = at.0 in absurd (omega (arith, w))
  set_is bound (r ∷ rows) zero row is differ at = ap (λ z. (z.0, bound) ∷ rows) is ∙ sym (ap (λ b. if b then (r.0, bound) ∷ rows else r ∷ insert_entry eq rows key bound) at.1)
  set_is bound (r ∷ rows) (suc i) row is differ at =
      ap (λ zs. r ∷ zs) (set_is bound rows i row is (IsDistinct-tail eq r.0 (keys_of rows) differ) (at_rest r rows i at))
      ∙ sym (ap (λ b. if b then (r.0, bound) ∷ rows else r ∷ insert_entry eq rows key bound) (head_differs r rows i differ at))

  other_rows : (r : K × Option ℕ) (rows : List (K × Option ℕ)) → lookup (eq key) (r ∷ rows) ≡ None → (eq key r.0 ≡ false) × (lookup (eq key) rows ≡ None)
  other_rows r rows none = by (eq key r.0) refl
    where
      by : (b : Bool) → eq key r.0 ≡ b → (eq key r.0 ≡ false) × (lookup (eq key) rows ≡ None)
      by true e = let s : lookup (eq key) (r ∷ rows) ≡ Some r.1 = ap (λ b. cond b (Some r.1) (lookup (eq key) rows)) e in absurd (true≢false (sym (ap is_some s) ∙ ap is_some none))
      by false e = (e, sym (ap (λ b. cond b (Some r.1) (lookup (eq key) rows)) e) ∙ none)

  -- a key that has no row gets one at the end
  pub added_last : (bound : Option ℕ) (rows : List (K × Option ℕ)) → lookup (eq key) rows ≡ None → insert_entry eq rows key bound ≡ rows ++ (key, bound) ∷ []
  added_last bound [] none = refl
  added_last bound (r ∷ rows) none =
      let other = other_rows r rows none in
      ap (λ b. if b then (r.0, bound) ∷ rows else r ∷ insert_entry eq rows key bound) other.0 ∙ ap (λ zs. r ∷ zs) (added_last bound rows other.1)

  no_key : (rows : List (K × Option ℕ)) → lookup (eq key) rows ≡ None → list_any (eq key) (keys_of rows) ≡ false
  no_key [] none = refl
  no_key (r ∷ rows) none = let other = other_rows r rows none in ap (λ b. b || list_any (eq key) (keys_of rows)) other.0 ∙ no_key rows other.1

  keys_snoc : (bound : Option ℕ) (rows : List (K × Option ℕ)) → keys_of (rows ++ (key, bound) ∷ []) ≡ keys_of rows ++ key ∷ []
  keys_snoc bound [] = refl
  keys_snoc bound (r ∷ rows) = ap (λ ks. r.0 ∷ ks) (keys_snoc bound rows)

  -- and the keys still differ
  pub still_differ : (bound : Option ℕ) (rows : List (K × Option ℕ)) → IsDistinct eq (keys_of rows) → lookup (eq key) rows ≡ None → IsDistinct eq (keys_of (rows ++ (key, bound) ∷ []))
  still_differ bound rows differ none = subst (IsDistinct eq) (sym (keys_snoc bound rows)) (IsDistinct-push laws (keys_of rows) key differ (no_key rows none))

-- keys stay where a bound is set
pub keys_set : {K : Type 0} (rows : List (K × Option ℕ)) (i : ℕ) (row : K × Option ℕ) (bound : Option ℕ) → row ≡ get_or rows i row → keys_of (set rows i (row.0, bound)) ≡ keys_of rows
keys_set [] i row bound is = refl
keys_set (r ∷ rows) zero row bound is = ap (λ z. z.0 ∷ keys_of rows) is
keys_set (r ∷ rows) (suc i) row bound is = ap (λ ks. r.0 ∷ ks) (keys_set rows i row bound is)

module _ {K : Type 0} (eq : K → K → Bool) (number : K → ℕ) where
  spots_by_keys : (count : ℕ) (rows : List (K × Option ℕ)) → spots_of number count rows ≡ map (λ k. spot_of count (number k)) (keys_of rows)
  spots_by_keys count [] = refl
  spots_by_keys count (r ∷ rows) = ap (λ ss. spot_of count (number r.0) ∷ ss) (spots_by_keys count rows)

  pub no_table : (rows : List (K × Option ℕ)) (links heads : List ℕ) (count : ℕ) → 0 < count → rows ≡ [] → links ≡ [] → heads ≡ replicate count 0 → IsTable eq number rows links heads
  unfolding IsDistinct
  no_table rows links heads count some e f g = subst (λ z. IsTable eq number z links heads) (sym e) (subst (λ z. IsTable eq number [] z heads) (sym f) (subst (λ z. IsTable eq number [] [] z) (sym g) none))
    where
      none : IsTable eq number [] [] (replicate count 0)
      none = record {
        chained = none_chained [] [] count;
        as_many = refl;
        distinct = tt;
        few = omega arith;
        room = let many : length (replicate count 0) ≡ count = length-replicate {A = ℕ} count 0 in omega (arith, many, some);
      }

  -- rows of the same keys are chained alike
  pub same_keys : (rows rows' : List (K × Option ℕ)) (links heads : List ℕ) → keys_of rows' ≡ keys_of rows → IsTable eq number rows links heads → IsTable eq number rows' links heads
  same_keys rows rows' links heads same t =
      let many : length rows' ≡ length rows = sym (length-keys_of rows') ∙ ap length same ∙ length-keys_of rows in
      let spots : spots_of number (length heads) rows' ≡ spots_of number (length heads) rows = spots_by_keys (length heads) rows' ∙ ap (map (λ k. spot_of (length heads) (number k))) same ∙ sym (spots_by_keys (length heads) rows) in record {
        chained = subst (λ n. AreChained (spots_of number (length heads) rows') n links heads) (sym many) (subst (λ ss. AreChained ss (length rows) links heads) (sym spots) t.chained);
        as_many = t.as_many ∙ sym many;
        distinct = subst (IsDistinct eq) (sym same) t.distinct;
        few = let f = t.few in omega (arith, f, many);
        room = t.room;
      }

-- The chain of a key, from its head on: what it has not come to is below where it stands.
module _ {K : Type 0} (eq : K → K → Bool) (number : K → ℕ) (respects : (k l : K) → eq k l ≡ true → number k ≡ number l) (count : ℕ) (key : K) (rows : List (K × Option ℕ)) where
  abbrev mine : ℕ
  mine = spot_of count (number key)

  abbrev pub Has : ℕ → Type 0
  Has end = (place : ℕ) → end ≡ suc place → slice_index (spots_of number count rows) place ≡ mine

  abbrev pub NoneFrom : ℕ → Type 0
  NoneFrom end = (place : ℕ) → end ≤ place → place < length rows → eq key (get_or (keys_of rows) place key) ≡ false

  apart : (before last : ℕ) → before ≤ length rows → IsLast (spots_of number count rows) before mine last → (place : ℕ) → last ≤ place → place < before → eq key (get_or (keys_of rows) place key) ≡ false
  apart before last up l place from h =
      let inside : place < length rows = omega (arith, h, up) in
      other_key eq number respects count key (get_or (keys_of rows) place key) (λ e. l.none place from h (spot_at number count rows place key inside ∙ e))

  pub first_end : (last : ℕ) → IsLast (spots_of number count rows) (length rows) mine last → (last ≤ length rows) × (Has last × NoneFrom last)
  first_end last l = (l.within, (l.has, λ place from h. apart (length rows) last (omega arith) l place from h))

  pub next_end : (end place last : ℕ) → end ≡ suc place → end ≤ length rows → Has end → NoneFrom end → eq key (get_or (keys_of rows) place key) ≡ false
      → IsLast (spots_of number count rows) place (slice_index (spots_of number count rows) place) last → (last ≤ length rows) × (Has last × NoneFrom last)
  next_end end place last is within has none differs l =
      let own : IsLast (spots_of number count rows) place mine last = subst (λ s. IsLast (spots_of number count rows) place s last) (has place is) l in
      (let w = own.within in omega (arith, w, is, within), (own.has, on own))
    where
      on : IsLast (spots_of number count rows) place mine last → NoneFrom last
      on own q from h = elim (eqb_tells q place) [
        | inl e ↦ subst (λ z. eq key (get_or (keys_of rows) z key) ≡ false) (sym e.1) differs
        | inr n ↦ elim (sides q n.1) [
          | inl below ↦ apart place last (let w = within in omega (arith, w, is)) own q from below
          | inr above ↦ none q above h
        ]
      ]
        where
          sides : (q : ℕ) → q ≢ place → (q < place) ⊎ (end ≤ q)
          sides q n = elim (eqb_tells (q - place) 0) [
            | inl e ↦ inl (let z = e.1 in omega (arith, z, n))
            | inr m ↦ inr (let z = m.1 in omega (arith, z, is))
          ]

-- One more row, at the end of all.
module _ {K : Type 0} (eq : K → K → Bool) (laws : IsEquivalence eq) (number : K → ℕ) (rows : List (K × Option ℕ)) (links heads : List ℕ) (key : K) (bound : Option ℕ) (old : IsTable eq number rows links heads) (new : lookup (eq key) rows ≡ None) (few : length rows < 4294967295) where
  abbrev spot : ℕ
  spot = spot_of (length heads) (number key)

  spots_snoc : (count : ℕ) (rs : List (K × Option ℕ)) → spots_of number count (rs ++ (key, bound) ∷ []) ≡ spots_of number count rs ++ spot_of count (number key) ∷ []
  spots_snoc count [] = refl
  spots_snoc count (r ∷ rs) = ap (λ ss. spot_of count (number r.0) ∷ ss) (spots_snoc count rs)

  spots_length : (count : ℕ) (rs : List (K × Option ℕ)) → length (spots_of number count rs) ≡ length rs
  spots_length count [] = refl
  spots_length count (r ∷ rs) = ap suc (spots_length count rs)

  one_longer : {A : Type 0} (xs : List A) (x : A) → length (xs ++ x ∷ []) ≡ suc (length xs)
  one_longer [] x = refl
  one_longer (y ∷ xs) x = ap suc (one_longer xs x)

  -- what is asked of the chaining of it
  pub at_end : slice_index (spots_of number (length heads) (rows ++ (key, bound) ∷ [])) (length rows) ≡ spot
  at_end =
      let ss = spots_of number (length heads) rows in
      ap (λ zs. slice_index zs (length rows)) (spots_snoc (length heads) rows) ∙ ap (slice_index (ss ++ spot ∷ [])) (sym (spots_length (length heads) rows)) ∙ get_or-append_seam ss spot [] 0

  pub before_it : AreChained (spots_of number (length heads) (rows ++ (key, bound) ∷ [])) (length rows) (links ++ 0 ∷ []) heads
  before_it =
      let ss = spots_of number (length heads) rows in
      let many = spots_length (length heads) rows in
      let linked = old.as_many in
      subst (λ zs. AreChained zs (length rows) (links ++ 0 ∷ []) heads) (sym (spots_snoc (length heads) rows))
      (still_chained ss (spot ∷ []) links (0 ∷ []) heads (length rows) (omega (arith, many)) (omega (arith, linked)) old.chained)

  pub longer_table : (links' heads' : List ℕ) → length links' ≡ length (links ++ 0 ∷ []) → length heads' ≡ length heads → AreChained (spots_of number (length heads) (rows ++ (key, bound) ∷ [])) (length rows + 1) links' heads' → IsTable eq number (rows ++ (key, bound) ∷ []) links' heads'
  longer_table links' heads' l h chained =
      let longer = one_longer rows (key, bound) in
      let more = one_longer links 0 in
      let linked = old.as_many in
      let room = old.room in
      let n : length rows + 1 ≡ length (rows ++ (key, bound) ∷ []) = omega (arith, longer) in record {
        chained = subst (λ m. AreChained (spots_of number m (rows ++ (key, bound) ∷ [])) (length (rows ++ (key, bound) ∷ [])) links' heads') (sym h) (subst (λ m. AreChained (spots_of number (length heads) (rows ++ (key, bound) ∷ [])) m links' heads') n chained);
        as_many = omega (arith, l, more, linked, longer);
        distinct = still_differ eq laws key bound rows old.distinct new;
        few = omega (arith, few, longer);
        room = omega (arith, room, h);
      }

-- Rows in another order.
pub reordered_table : {K : Type 0} (eq : K → K → Bool) → IsEquivalence eq → (number : K → ℕ) (rows rows' : List (K × Option ℕ)) (links heads links' heads' : List ℕ) → IsTable eq number rows links heads → IsPermutation rows rows'
    → length links' ≡ length links → length heads' ≡ length heads → AreChained (spots_of number (length heads') rows') (length rows') links' heads' → IsTable eq number rows' links' heads'
reordered_table eq laws number rows rows' links heads links' heads' t moves l h chained =
    let many = length_permutation rows rows' moves in
    let linked = t.as_many in
    let few = t.few in
    let room = t.room in record {
      chained = chained;
      as_many = omega (arith, l, linked, many);
      distinct = IsDistinct-IsPermutation eq (λ k m. laws.symm k m) (keys_of rows) (keys_of rows') (IsPermutation-map (λ r. r.0) rows rows' moves) t.distinct;
      few = omega (arith, few, many);
      room = omega (arith, room, h);
    }

pub looked_up_still : {K : Type 0} (eq : K → K → Bool) → IsEquivalence eq → (rows rows' : List (K × Option ℕ)) → IsDistinct eq (keys_of rows) → IsPermutation rows rows' → (key : K) → lookup (eq key) rows' ≡ lookup (eq key) rows
looked_up_still eq laws rows rows' differ moves key = (reordered laws (hash_map {S = ℕ} rows 0 0) (hash_map {S = ℕ} rows' 0 0) differ moves).0.2 key
