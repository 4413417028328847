-- Slices that were written so far, each as its value.
use Rattle.std.proofs.Common.{◌<◌, ◌≤◌, ◌+◌, ℕ, List, [], ◌∷◌, ◌++◌, length, take, get_or, subst}
use Rattle.std.proofs.lemmas.List.{take_all, take_more}
use Rattle.serde_json.specs.View.{view, items_view}
use Rattle.serde_json.specs.declared.value.Value.{Value}
use Rattle.fare_law.specs.Lists.{Each}
use Rattle.fare_law.specs.declared.requests.Slice.{Slice}
use Rattle.fare_law.specs.Limits.{IsSlice}
use Rattle.request_text.specs.Text.{WritesSlice, WritesSlices}
use Rattle.law_lemmas.proofs.EachOne.{holds_at}

grows : (ss : List Slice) (vs : List Value) (s : Slice) (v : Value) → WritesSlices ss (items_view vs) → WritesSlice s (view v) → WritesSlices (ss ++ s ∷ []) (items_view (vs ++ v ∷ []))
grows [] [] s v h w = (w, tt)
grows [] (x ∷ vs) s v h w = absurd h
grows (t ∷ ss) [] s v h w = absurd h
grows (t ∷ ss) (x ∷ vs) s v h w = (h.0, grows ss vs s v h.1 w)

pub slices_grow : (ss : List Slice) (vs : List Value) (i : ℕ) (d : Slice) (v : Value) → i < length ss → WritesSlices (take i ss) (items_view vs) → WritesSlice (get_or ss i d) (view v) → WritesSlices (take (i + 1) ss) (items_view (vs ++ v ∷ []))
slices_grow ss vs i d v l h w = rw (take_more ss i d l) (grows (take i ss) vs (get_or ss i d) v h w)

pub slices_whole : (ss : List Slice) (vs : List Value) (i : ℕ) → length ss ≤ i → WritesSlices (take i ss) (items_view vs) → WritesSlices ss (items_view vs)
slices_whole ss vs i l h = let e = take_all i ss l in subst (λ (xs : List Slice). WritesSlices xs (items_view vs)) e h

-- what each slice has, the one at this place has
pub window_at : (ss : List Slice) (i : ℕ) (d : Slice) → i < length ss → Each IsSlice ss → IsSlice (get_or ss i d)
window_at = holds_at IsSlice

pub ruleset slice_steps = (slices_grow, slices_whole, window_at)
