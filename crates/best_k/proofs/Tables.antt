-- Reading the table, and a table that grows.
use Rattle.std.proofs.Common.{◌≡◌, ℕ, zero, suc, ◌<◌, ◌≤◌, List, [], ◌∷◌, length, get_or, sym, refl, ap, subst, inl, inr, arith, ◌+◌, ◌^◌, ◌++◌, length-append, slice_get, Some, None, ◌∙◌, slice_set}
use Rattle.std.proofs.lemmas.Bool.{cases_eq, cases_lt}
use Rattle.best_k.specs.declared.lattice.Choice.{Choice}
use Rattle.best_k.specs.declared.lattice.Choice.TheVariants.{Leaf, Pair}
use Rattle.best_k.specs.declared.table.Progress.{Progress}
use Rattle.best_k.specs.declared.table.Stage.{Stage}
use Rattle.best_k.specs.declared.table.Stage.TheVariants.{Fresh, Open, Spent}
use Rattle.best_k.specs.declared.table.Way.{Way}
use Rattle.best_k.specs.Derivations.{Shape, LatticeLaws}
use Rattle.best_k.specs.Ranked.{ranked}
use Rattle.best_k.specs.Ways.{HasRank}
use Rattle.best_k.specs.Tables.{drawn_of, count, IsDrawn, HeldBy, Held, IsDrawnTo}
use Rattle.best_k.specs.Queues.{IsQueue}
use Rattle.best_k.specs.Drawing.{IsStage, IsProgress, IsTable, IsTableOf, DrawsTo}
use Rattle.best_k.proofs.Places.{nth_in, in_nth, nth_short, nth_here}
use Rattle.best_k.proofs.Apart.{Inside, inside}
use Rattle.best_k.proofs.Frontiers.{drawn_few}
use Rattle.law_lemmas.proofs.Lists.{get_here}

pub there : (t : List Progress) (u : ℕ) → u < length t → (x : Progress) × (slice_get t u ≡ Some x)
there [] u h = absurd (omega arith)
there (x ∷ t) zero h = (x, refl)
there (x ∷ t) (suc u) h = there t u (omega arith)

pub set_other : (t : List Progress) (i u : ℕ) (v : Progress) → (u ≡ i → ⊥)
    → slice_get (slice_set t i v) u ≡ slice_get t u
set_other [] i u v n = refl
set_other (x ∷ t) zero zero v n = absurd (n refl)
set_other (x ∷ t) zero (suc u) v n = refl
set_other (x ∷ t) (suc i) zero v n = refl
set_other (x ∷ t) (suc i) (suc u) v n = set_other t i u v (λ e. n (ap suc e))

pub set_here : (t : List Progress) (i : ℕ) (v : Progress) → i < length t
    → slice_get (slice_set t i v) i ≡ Some v
set_here [] i v h = absurd (omega arith)
set_here (x ∷ t) zero v h = refl
set_here (x ∷ t) (suc i) v h = set_here t i v (omega arith)

pub set_long : (t : List Progress) (i : ℕ) (v : Progress) → length (slice_set t i v) ≡ length t
set_long [] i v = refl
set_long (x ∷ t) zero v = refl
set_long (x ∷ t) (suc i) v = ap suc (set_long t i v)

get_left : (t : List Progress) (x : Progress) (u : ℕ) → u < length t
    → slice_get (t ++ x ∷ []) u ≡ slice_get t u
get_left [] x u h = absurd (omega arith)
get_left (y ∷ t) x zero h = refl
get_left (y ∷ t) x (suc u) h = get_left t x u (omega arith)

get_last : (t : List Progress) (x : Progress) → slice_get (t ++ x ∷ []) (length t) ≡ Some x
get_last [] x = refl
get_last (y ∷ t) x = get_last t x

pub count_here : (t : List Progress) (u : ℕ) (x : Progress) → u < length t → x ≡ get_or t u x
    → count t u ≡ length x.drawn.items
count_here t u x h e = ap drawn_of (get_here t u x h e)

pub drawn_here : (t : List Progress) (u i : ℕ) (x : Progress) (w : Way) → u < length t → x ≡ get_or t u x
    → i < length x.drawn.items → w ≡ get_or x.drawn.items i w → IsDrawn t u i w
drawn_here t u i x w h e k f = (x, get_here t u x h e, nth_here x.drawn.items i w k f)

pub drawn_counts : (t : List Progress) (u i : ℕ) (w : Way) → IsDrawn t u i w → i < count t u
drawn_counts t u i w (x, e, k) = subst (λ z. i < drawn_of z) (sym e) (nth_short x.drawn.items i w k)

pub drawn_rank : (l : Shape) (t : List Progress) (n u i : ℕ) (w : Way) → IsTable l t n → u < n
    → IsDrawn t u i w → HasRank l u w i
drawn_rank l t n u i w ok h (x, e, k) = (ok.nodes u x h e).first i w k

pub drawn_held : (l : Shape) (t : List Progress) (n u i : ℕ) (w : Way) → IsTable l t n → u < n
    → IsDrawn t u i w → Held l t u w
drawn_held l t n u i w ok h (x, e, k) = (ok.nodes u x h e).held w (nth_in x.drawn.items i w k)

pub below : (l : Shape) (t : List Progress) (n m : ℕ) → m ≤ n → IsTable l t n → IsTable l t m
below l t n m h ok = record { long = omega (arith, ok.long); nodes = λ u x k e. ok.nodes u x (omega arith) e }

count_most : (l : Shape) (t : List Progress) (n u : ℕ) → IsTable l t n → u < n
    → count t u ≤ length (ranked l u)
count_most l t n u ok h =
    let x = there t u (omega (arith, ok.long)) in
    subst (λ z. drawn_of z ≤ length (ranked l u)) (sym x.1) (drawn_few l u x.0.drawn.items (ok.nodes u x.0 h x.1).first)

pub count_few : (l : Shape) (t : List Progress) (n u : ℕ) → IsTable l t n → u < n → count t u < 2 ^ 64
count_few l t n u ok h = let x = there t u (omega (arith, ok.long)) in subst (λ z. drawn_of z < 2 ^ 64) (sym x.1) (ok.nodes u x.0 h x.1).few

-- No node below n has fewer drawn ways.
abbrev pub Grows : ℕ → List Progress → List Progress → Type 0
Grows n t t' = (u : ℕ) → u < n → count t u ≤ count t' u

held_by_grows : (n : ℕ) (t t' : List Progress) (c : Choice) (i j : ℕ) → Inside n c → Grows n t t'
    → HeldBy t c i j → HeldBy t' c i j
held_by_grows n t t' (Leaf price word) i j h g k = tt
held_by_grows n t t' (Pair first None) i j h g k = let a = g first h in omega arith
held_by_grows n t t' (Pair first (Some rest)) i j h g k = let a = g first h.0 in let b = g rest h.1 in (omega (arith, k.0), omega (arith, k.1))

held_grows : (l : Shape) → LatticeLaws l → (t t' : List Progress) (node : ℕ) (w : Way) → node < l.nodes
    → w.at < l.choices node → Grows node t t' → Held l t node w → Held l t' node w
held_grows l laws t t' node w n k g h = held_by_grows node t t' (l.choice node w.at) w.first w.rest (inside l laws node w.at n k) g h

queue_grows : (l : Shape) → LatticeLaws l → (t t' : List Progress) (node : ℕ) (queue : List Way)
    → node < l.nodes → Grows node t t' → IsQueue l t node queue → IsQueue l t' node queue
queue_grows l laws t t' node queue n g q = record {
  rank = q.rank;
  ranked = q.ranked;
  heap = q.heap;
  held = λ w i. let k = in_nth queue w i in held_grows l laws t t' node w n (q.ranked k.0 w k.1).is.there g (q.held w i);
}

pub progress_grows : (l : Shape) → LatticeLaws l → (t t' : List Progress) (node : ℕ) (x : Progress)
    → node < l.nodes → Grows node t t' → IsProgress l t node x → IsProgress l t' node x
progress_grows l laws t t' node x n g h = record {
  first = h.first;
  few = h.few;
  held = λ w i. let k = in_nth x.drawn.items w i in held_grows l laws t t' node w n (h.first k.0 w k.1).is.there g (h.held w i);
  state = stage_grows x.drawn.items x.queue.items x.stage h.state;
}
  where
    stage_grows : (drawn queue : List Way) (s : Stage) → IsStage l t node drawn queue s
        → IsStage l t' node drawn queue s
    stage_grows drawn queue Fresh k = k
    stage_grows drawn queue Open k = record { closed = k.closed; last = k.last; frontier = k.frontier; queue = queue_grows l laws t t' node queue n g k.queue }
    stage_grows drawn queue Spent k = k

pub still : (l : Shape) (t t' : List Progress) (n u i : ℕ) → IsTable l t' n → u < n → count t u ≤ count t' u
    → IsDrawnTo l t u i → IsDrawnTo l t' u i
still l t t' n u i ok h g (inl k) = inl (omega arith)
still l t t' n u i ok h g (inr e) = let m = count_most l t' n u ok h in inr (omega arith)

-- the table after a node below was drawn on
pub kept : (l : Shape) → LatticeLaws l → (t t' : List Progress) (at child rank : ℕ) → at < l.nodes
    → child < at → IsTable l t (at + 1) → DrawsTo l t t' child rank → IsTable l t' (at + 1)
kept l laws t t' at child rank n h ok drew = record {
  long = omega (arith, ok.long, drew.long);
  nodes = λ u x k e. elim (cases_lt child u) [
    | inr le ↦ drew.table.nodes u x (omega arith) e
    | inl lt ↦ progress_grows l laws t t' u x (omega arith) (λ v b. drew.grows v) (ok.nodes u x k (sym (drew.same u lt) ∙ e))
  ];
}

-- one more node
pub table_pushed : (l : Shape) → LatticeLaws l → (t : List Progress) (n : ℕ) (x : Progress) → n < l.nodes
    → IsTableOf l t n → IsProgress l t n x → IsTableOf l (t ++ x ∷ []) (n + 1)
table_pushed l laws t n x h ok new = record {
  table = record {
    long = omega (arith, ok.long, length-append t (x ∷ []));
    nodes = λ u y lt e. elim (cases_eq u n) [
      | inl s ↦ let z : Some y ≡ Some x = sym e ∙ ap (λ k. slice_get (t ++ x ∷ []) k) (s ∙ sym ok.long) ∙ get_last t x in
          let q : x ≡ y = cc in
          subst (λ k. IsProgress l (t ++ x ∷ []) k y) (sym s) (subst (λ k. IsProgress l (t ++ x ∷ []) n k) q (progress_grows l laws t (t ++ x ∷ []) n x h (λ v b. grow v (omega (arith, ok.long))) new))
      | inr ne ↦ let a : u < length t = omega (arith, ok.long) in
          progress_grows l laws t (t ++ x ∷ []) u y (omega arith) (λ v b. grow v (omega arith)) (ok.table.nodes u y (omega arith) (sym (get_left t x u a) ∙ e))
    ];
  };
  long = omega (arith, ok.long, length-append t (x ∷ []));
}
  where
    grow : (v : ℕ) → v < length t → count t v ≤ count (t ++ x ∷ []) v
    grow v b = let e = ap drawn_of (get_left t x v b) in omega arith
