-- Rows by their keys: what is found by a key is the row of the state that it stands for.
use Rattle.std.proofs.Common.{◌≡◌, ◌≢◌, ◌∙◌, ℕ, zero, suc, ◌<◌, Bool, true, false, cond, not, ◌+◌, List, [], ◌∷◌, length, slice_get, Option, Some, None, option_map, option_and_then, refl, sym, ap, ap₂, subst, inl, inr, arith}
use Rattle.std.specs.List.{position, position_or_len}
use Rattle.std.specs.Map.{keys_of, lookup}
use Rattle.std.proofs.lemmas.Bool.Decides.{Decides-ltb}
use Rattle.fare_law.specs.Lists.{AllDifferent, Each, IsIn}
use Rattle.graph_walk.specs.Steps.{AreLive, KeepsStates, TellsStates, rows_of}
use Rattle.graph_walk.specs.Walks.{states}

module _ {K X : Type 0} (live : K → Type 0) (state : K → X) (same : K → K → Bool) (tells : TellsStates live state same) where
  -- what is found has the state of the key
  pub found_in : (es : List (K × Option ℕ)) (key : K) (rest : ℕ) → AreLive live es → live key → option_and_then (λ bound. bound) (lookup (same key) es) ≡ Some rest → IsIn (state key, Some rest) (rows_of state es)
  found_in [] key rest h l e = absurd (cc)
  found_in (d ∷ es) key rest h l e = by (same key d.0) refl e (λ f. found_in es key rest h.1 l f)
    where
      by : (t : Bool) → same key d.0 ≡ t → option_and_then (λ bound. bound) (cond t (Some d.1) (lookup (same key) es)) ≡ Some rest
          → (option_and_then (λ bound. bound) (lookup (same key) es) ≡ Some rest → IsIn (state key, Some rest) (rows_of state es)) → IsIn (state key, Some rest) (rows_of state (d ∷ es))
      by true s f more = inl (ap₂ (λ x bound. (x, bound)) ((tells key d.0 l h.0).0 s) (sym f))
      by false s f more = inr (more f)

  -- the key of a row
  pub key_of_row : (es : List (K × Option ℕ)) (x : X) (bound : Option ℕ) → AreLive live es → IsIn (x, bound) (rows_of state es) → (key : K) × live key × (state key ≡ x) × IsIn (key, bound) es
  key_of_row [] x bound h i = absurd i
  key_of_row (d ∷ es) x bound h (inl e) = (d.0, h.0, sym (ap (λ z. z.0) e), inl (ap (λ z. (d.0, z.1)) e))
  key_of_row (d ∷ es) x bound h (inr i) = let r = key_of_row es x bound h.1 i in (r.0, r.1, r.2, inr r.3)

  in_states : (es : List (K × Option ℕ)) (key : K) (bound : Option ℕ) → IsIn (key, bound) es → IsIn (state key) (states (rows_of state es))
  in_states [] key bound i = absurd i
  in_states (d ∷ es) key bound (inl e) = inl (ap (λ z. state z.0) e)
  in_states (d ∷ es) key bound (inr i) = inr (in_states es key bound i)

  none_of : (x : X) (xs : List X) → Each (λ y. x ≢ y) xs → IsIn x xs → ⊥
  none_of x [] h i = absurd i
  none_of x (y ∷ ys) h (inl e) = h.0 e
  none_of x (y ∷ ys) h (inr i) = none_of x ys h.1 i

  live_row : (es : List (K × Option ℕ)) (key : K) (bound : Option ℕ) → AreLive live es → IsIn (key, bound) es → live key
  live_row [] key bound h i = absurd i
  live_row (d ∷ es) key bound h (inl e) = subst live (sym (ap (λ z. z.0) e)) h.0
  live_row (d ∷ es) key bound h (inr i) = live_row es key bound h.1 i

  -- a row is found by its key
  pub row_found : (es : List (K × Option ℕ)) (key : K) (bound : Option ℕ) → AreLive live es → AllDifferent (states (rows_of state es)) → IsIn (key, bound) es → lookup (same key) es ≡ Some bound
  row_found [] key bound h d i = absurd i
  row_found (e ∷ es) key bound h d i = by (same key e.0) refl i (λ j. row_found es key bound h.1 d.1 j)
    where
      by : (t : Bool) → same key e.0 ≡ t → IsIn (key, bound) (e ∷ es) → (IsIn (key, bound) es → lookup (same key) es ≡ Some bound) → cond t (Some e.1) (lookup (same key) es) ≡ Some bound
      by true s (inl f) more = ap (λ z. Some z.1) (sym f)
      by true s (inr j) more = absurd (none_of (state e.0) (states (rows_of state es)) d.0 (subst (λ x. IsIn x (states (rows_of state es))) ((tells key e.0 (live_row es key bound h.1 j) h.0).0 s) (in_states es key bound j)))
      by false s (inl f) more =
          let l = live_row (e ∷ es) key bound h i in
          let t : same key e.0 ≡ true = (tells key e.0 l h.0).1 (ap (λ z. state z.0) f) in absurd (cc)
      by false s (inr j) more = more j

  place : (es : List (K × Option ℕ)) (key : K) → AreLive live es → live key → IsIn (state key) (states (rows_of state es))
      → (n : ℕ) × (position_or_len (same key) (keys_of es) ≡ n) × (n < length (keys_of es)) × (slice_get (states (rows_of state es)) n ≡ Some (state key))
  place [] key h l i = absurd i
  place (e ∷ es) key h l i = by (same key e.0) refl i (λ j. place es key h.1 l j)
    where
      by : (t : Bool) → same key e.0 ≡ t → IsIn (state key) (states (rows_of state (e ∷ es)))
          → (IsIn (state key) (states (rows_of state es)) → (n : ℕ) × (position_or_len (same key) (keys_of es) ≡ n) × (n < length (keys_of es)) × (slice_get (states (rows_of state es)) n ≡ Some (state key)))
          → (n : ℕ) × (cond (not t) (1 + position_or_len (same key) (keys_of es)) 0 ≡ n) × (n < length (keys_of (e ∷ es))) × (slice_get (states (rows_of state (e ∷ es))) n ≡ Some (state key))
      by true s j more = (0, refl, omega arith, ap Some (sym ((tells key e.0 l h.0).0 s)))
      by false s (inl f) more = let t : same key e.0 ≡ true = (tells key e.0 l h.0).1 f in absurd (cc)
      by false s (inr j) more = let r = more j in let is = r.1 in let lt = r.2 in (suc r.0, omega (arith, is), omega (arith, lt), r.3)

  -- the place of a key is that of its state
  pub place_of : (es : List (K × Option ℕ)) (key : K) → AreLive live es → live key → IsIn (state key) (states (rows_of state es)) → (n : ℕ) × (position (same key) (keys_of es) ≡ Some n) × (slice_get (states (rows_of state es)) n ≡ Some (state key))
  place_of es key h l i =
      let r = place es key h l i in
      let lt : position_or_len (same key) (keys_of es) < length (keys_of es) = let a = r.1 in let c = r.2 in omega (arith, a, c) in
      (r.0, ap (λ t. cond t (Some (position_or_len (same key) (keys_of es))) None) ((Decides-ltb (position_or_len (same key) (keys_of es)) (length (keys_of es))).1 lt) ∙ ap Some r.1, r.3)

-- the state at a place is that of its key
pub state_at : {K X : Type 0} (f : K → X) (es : List (K × Option ℕ)) (n : ℕ) (key : K) → option_map (λ row. row.0) (slice_get es n) ≡ Some key → slice_get (states (rows_of f es)) n ≡ Some (f key)
state_at f [] n key h = absurd (cc)
state_at f (e ∷ es) zero key h = let same : e.0 ≡ key = cc in ap (λ z. Some (f z)) same
state_at f (e ∷ es) (suc n) key h = state_at f es n key h

pub live_at : {K : Type 0} (live : K → Type 0) (es : List (K × Option ℕ)) (n : ℕ) (key : K) → AreLive live es → option_map (λ row. row.0) (slice_get es n) ≡ Some key → live key
live_at live [] n key h e = absurd (cc)
live_at live (d ∷ es) zero key h e = let same : d.0 ≡ key = cc in subst live same h.0
live_at live (d ∷ es) (suc n) key h e = live_at live es n key h.1 e

-- rows of live keys stand for the same where what keys stand for stays
pub rows_stay : {K X : Type 0} (live live' : K → Type 0) (state state' : K → X) (es : List (K × Option ℕ)) → KeepsStates live live' state state' → AreLive live es → rows_of state' es ≡ rows_of state es
rows_stay live live' state state' [] k h = refl
rows_stay live live' state state' (e ∷ es) k h = ap₂ (λ x rest. (x, e.1) ∷ rest) (k e.0 h.0).1 (rows_stay live live' state state' es k h.1)

pub still_live : {K X : Type 0} (live live' : K → Type 0) (state state' : K → X) (es : List (K × Option ℕ)) → KeepsStates live live' state state' → AreLive live es → AreLive live' es
still_live live live' state state' [] k h = tt
still_live live live' state state' (e ∷ es) k h = ((k e.0 h.0).0, still_live live live' state state' es k h.1)
