-- What a draw takes of the nodes below, and what it leaves of the table.
use Rattle.std.proofs.Common.{◌≡◌, ℕ, suc, ◌<◌, ◌≤◌, ◌⊎◌, List, length, sym, refl, ap, subst, inl, inr, arith, ◌+◌, slice_get, Option, Some, None, ◌∙◌, slice_set}
use Rattle.std.proofs.lemmas.Bool.{cases_eq}
use Rattle.best_k.specs.declared.lattice.Choice.{Choice}
use Rattle.best_k.specs.declared.lattice.Choice.TheVariants.{Leaf, Pair}
use Rattle.best_k.specs.declared.table.Progress.{Progress}
use Rattle.best_k.specs.declared.table.Stage.{Stage}
use Rattle.best_k.specs.declared.table.Stage.TheVariants.{Fresh, Open, Spent}
use Rattle.best_k.specs.declared.table.Way.{Way}
use Rattle.best_k.specs.Derivations.{Shape, LatticeLaws}
use Rattle.best_k.specs.Ranked.{Nth, ranked}
use Rattle.best_k.specs.Tables.{drawn_of, count, HeldBy, Usable, ArePartsDrawnTo}
use Rattle.best_k.specs.Drawing.{IsStage, IsProgress, IsTable, AreFollowersDrawn, IsLastFollowed, AreDrawn, IsAdvanced, DrawsTo, DrawsParts}
use Rattle.best_k.proofs.Places.{nth_one}
use Rattle.best_k.proofs.Apart.{Inside, inside}
use Rattle.best_k.proofs.Frontiers.{drawn_few}
use Rattle.best_k.proofs.Tables.{set_other, set_here, set_long, below, progress_grows, still, kept}

pub smaller_first : (l : Shape) → LatticeLaws l → (node at first : ℕ) (rest : Option ℕ) → node < l.nodes
    → at < l.choices node → l.choice node at ≡ Pair first rest → first < node
smaller_first l laws node at first rest n k e = (laws.smaller node at first rest n k e).0

smaller_rest : (l : Shape) → LatticeLaws l → (node at first other : ℕ) → node < l.nodes
    → at < l.choices node → l.choice node at ≡ Pair first (Some other) → other < node
smaller_rest l laws node at first other n k e = (laws.smaller node at first (Some other) n k e).1

-- what stands after the first of two was drawn on
pub between : (l : Shape) → LatticeLaws l → (t t' : List Progress) (at first other : ℕ) (w : Way)
    → at < l.nodes → IsTable l t (at + 1) → Usable l t at w → l.choice at w.at ≡ Pair first (Some other)
    → DrawsTo l t t' other (w.rest + 1) → IsTable l t' (first + 1) × AreDrawn l t' first (w.first + 1)
between l laws t t' at first other w n ok usable e drew =
    let less = smaller_rest l laws at w.at first other n usable.ranked.is.there e in
    let less' = smaller_first l laws at w.at first (Some other) n usable.ranked.is.there e in
    let held = subst (λ z. HeldBy t z w.first w.rest) e usable.held in
    let g = drew.grows first in
    (below l t' (at + 1) (first + 1) (omega arith) (kept l laws t t' at other (w.rest + 1) n less ok drew), inl (omega (arith, held.0)))

pub draws_both : (l : Shape) → LatticeLaws l → (t t' t2 : List Progress) (at first other : ℕ) (w : Way)
    → at < l.nodes → IsTable l t (at + 1) → Usable l t at w → l.choice at w.at ≡ Pair first (Some other)
    → DrawsTo l t t' other (w.rest + 1) → DrawsTo l t' t2 first (w.first + 1) → w.rest ≡ 0
    → DrawsParts l t t2 at w
draws_both l laws t t' t2 at first other w n ok usable e drew more ez =
    let less = smaller_rest l laws at w.at first other n usable.ranked.is.there e in
    let less' = smaller_first l laws at w.at first (Some other) n usable.ranked.is.there e in
    let held = subst (λ z. HeldBy t z w.first w.rest) e usable.held in
    let ok' = kept l laws t t' at other (w.rest + 1) n less ok drew in
    let ok2 = kept l laws t' t2 at first (w.first + 1) n less' ok' more in
    let g = drew.grows first in
    let g2 = more.grows first in
    let h2 = more.grows other in
    let drawn_other = still l t' t2 (at + 1) other (w.rest + 1) ok2 (omega arith) h2 drew.reached in
    let drawn_zero = still l t' t2 (at + 1) other 0 ok2 (omega arith) h2 (elim drew.reached [ inl k ↦ inl (omega arith) | inr k ↦ inr k ]) in
    record {
      table = ok2;
      long = more.long ∙ drew.long;
      same = λ u h. more.same u (omega arith) ∙ drew.same u (omega arith);
      grows = λ u. let a = drew.grows u in let b = more.grows u in omega arith;
      reached = subst (λ z. ArePartsDrawnTo l t2 z w.first (w.rest + 1) × (w.rest ≡ 0 → ArePartsDrawnTo l t2 z (w.first + 1) 0)) (sym e) ((inl (omega (arith, held.0)), drawn_other), λ z. (more.reached, drawn_zero));
    }

-- a node of which not all is drawn has a last drawn way
pub last_usable : (l : Shape) (t : List Progress) (at : ℕ) (x : Progress) → IsProgress l t at x
    → (x.stage ≡ Spent → ⊥) → 0 < length x.drawn.items
last_usable l t at x ok ns = go x.drawn.items x.queue.items x.stage refl ok.state
  where
    go : (drawn queue : List Way) (s : Stage) → x.stage ≡ s → IsStage l t at drawn queue s → 0 < length drawn
    go drawn queue Fresh e (w, a, b, c, d) = subst (λ z. 0 < length z) (sym a) (omega arith)
    go drawn queue Open e k = omega (arith, k.last)
    go drawn queue Spent e k = absurd (ns e)

drawn_same : (l : Shape) (t t' : List Progress) (n : ℕ) (c : Choice) (i j : ℕ) → Inside n c
    → ((u : ℕ) → u < n → count t' u ≡ count t u) → ArePartsDrawnTo l t c i j → ArePartsDrawnTo l t' c i j
drawn_same l t t' n (Leaf price word) i j h e k = tt
drawn_same l t t' n (Pair first None) i j h e k = subst (λ z. (i < z) ⊎ (z ≡ length (ranked l first))) (sym (e first h)) k
drawn_same l t t' n (Pair first (Some rest)) i j h e k = (subst (λ z. (i < z) ⊎ (z ≡ length (ranked l first))) (sym (e first h.0)) k.0, subst (λ z. (j < z) ⊎ (z ≡ length (ranked l rest))) (sym (e rest h.1)) k.1)

below_same : (t : List Progress) (at : ℕ) (v : Progress) (u : ℕ) → u < at
    → count (slice_set t at v) u ≡ count t u
below_same t at v u h = ap drawn_of (set_other t at u v (λ e. omega arith))

-- Where the parts of what follows its last drawn way are drawn, a node can be advanced, in a table where another
-- progress stands in its place.
pub record CanAdvance (l : Shape) (t : List Progress) (at : ℕ) (x : Progress) : Type 0 where
  pub table : IsTable l t at
  pub node : IsProgress l t at x
  pub reached : IsLastFollowed l t at x.drawn.items

pub can_advance : (l : Shape) → LatticeLaws l
    → (t0 t1 : List Progress) (at : ℕ) (e x node : Progress) (last : Way) (m : ℕ) → at < l.nodes
    → DrawsParts l t0 t1 at last → slice_get t0 at ≡ Some node → slice_get t1 at ≡ Some x
    → suc m ≡ length node.drawn.items → Nth node.drawn.items m last → CanAdvance l (slice_set t1 at e) at x
can_advance l laws t0 t1 at e x node last m n f g0 g1 em k = record {
  table = record {
    long = omega (arith, f.table.long, set_long t1 at e);
    nodes = λ u y h s. progress_grows l laws t1 (slice_set t1 at e) u y (omega arith) (λ v b. let q = below_same t1 at e v (omega arith) in omega arith) (f.table.nodes u y (omega arith) (sym (set_other t1 at u e (λ z. omega arith)) ∙ s));
  };
  node = ok;
  reached = λ i w ei h.
      let d = ap (λ z. z.drawn.items) same in
      let j : i ≡ m = omega (arith, em, ei, ap length d) in
      let w' : w ≡ last = nth_one node.drawn.items m w last (subst (λ z. Nth node.drawn.items z w) j (subst (λ z. Nth z i w) d h)) k in
      let lw = (ok.first i w h).is.there in
      let ft = subst (λ z. AreFollowersDrawn l t1 at z) (sym w') f.reached in
      let ins = inside l laws at w.at n lw in (
        drawn_same l t1 (slice_set t1 at e) at (l.choice at w.at) w.first (w.rest + 1) ins (below_same t1 at e) ft.0,
        λ z. drawn_same l t1 (slice_set t1 at e) at (l.choice at w.at) (w.first + 1) 0 ins (below_same t1 at e) (ft.1 z),
      );
}
  where
    same : x ≡ node
    same = let q : Some x ≡ Some node = sym g1 ∙ f.same at (omega arith) ∙ g0 in cc

    ok : IsProgress l (slice_set t1 at e) at x
    ok = progress_grows l laws t1 (slice_set t1 at e) at x n (λ v b. let q = below_same t1 at e v b in omega arith) (f.table.nodes at x (omega arith) g1)

pub same_node : (l : Shape) (t0 t1 : List Progress) (at : ℕ) (x node : Progress) (last : Way)
    → DrawsParts l t0 t1 at last → slice_get t0 at ≡ Some node → slice_get t1 at ≡ Some x → x ≡ node
same_node l t0 t1 at x node last f g0 g1 = let q : Some x ≡ Some node = sym g1 ∙ f.same at (omega arith) ∙ g0 in cc

pub draws_more : (l : Shape) → LatticeLaws l
    → (t0 t1 : List Progress) (at rank : ℕ) (e x node y : Progress) (last : Way) → at < l.nodes
    → DrawsParts l t0 t1 at last → slice_get t0 at ≡ Some node → slice_get t1 at ≡ Some x
    → IsAdvanced l (slice_set t1 at e) at x y → length node.drawn.items ≤ rank → AreDrawn l t0 at rank
    → DrawsTo l t0 (slice_set (slice_set t1 at e) at y) at rank
draws_more l laws t0 t1 at rank e x node y last n f g0 g1 adv le near = record {
  table = record {
    long = omega (arith, f.table.long, lens);
    nodes = λ u z h s. elim (cases_eq u at) [
      | inl q ↦ let w : Some z ≡ Some y = sym s ∙ ap (λ k. slice_get (slice_set (slice_set t1 at e) at y) k) q ∙ here in
          let zy : y ≡ z = cc in
          subst (λ k. IsProgress l (slice_set (slice_set t1 at e) at y) k z) (sym q) (subst (λ k. IsProgress l (slice_set (slice_set t1 at e) at y) at k) zy (progress_grows l laws (slice_set t1 at e) (slice_set (slice_set t1 at e) at y) at y n (λ v b. let c = below_same (slice_set t1 at e) at y v b in omega arith) adv.is))
      | inr ne ↦ progress_grows l laws t1 (slice_set (slice_set t1 at e) at y) u z (omega arith) (λ v b. let c = below_same (slice_set t1 at e) at y v (omega arith) in let d = below_same t1 at e v (omega arith) in omega arith) (f.table.nodes u z (omega arith) (sym (other u ne) ∙ s))
    ];
  };
  long = lens ∙ f.long;
  same = λ u h. other u (λ q. omega arith) ∙ f.same u (omega arith);
  grows = λ u. elim (cases_eq u at) [
    | inl q ↦ subst (λ k. count t0 k ≤ count (slice_set (slice_set t1 at e) at y) k) (sym q) (omega (arith, ap drawn_of g0, ap drawn_of here, adv.more, ap (λ z. length z.drawn.items) same))
    | inr ne ↦ let c = f.grows u in let d = ap drawn_of (other u ne) in omega arith
  ];
  reached = elim adv.reached [
    | inl lt ↦ elim near [
      | inl k ↦ inl (omega (arith, ap drawn_of g0, ap drawn_of here, lt, ap (λ z. length z.drawn.items) same))
      | inr k ↦ let m = drawn_few l at y.drawn.items adv.is.first in inr (omega (arith, ap drawn_of g0, ap drawn_of here, lt, ap (λ z. length z.drawn.items) same))
    ]
    | inr all ↦ inr (ap drawn_of here ∙ all)
  ];
}
  where
    lens : length (slice_set (slice_set t1 at e) at y) ≡ length t1
    lens = set_long (slice_set t1 at e) at y ∙ set_long t1 at e

    here : slice_get (slice_set (slice_set t1 at e) at y) at ≡ Some y
    here = set_here (slice_set t1 at e) at y (omega (arith, f.table.long, set_long t1 at e))

    other : (u : ℕ) → (u ≡ at → ⊥) → slice_get (slice_set (slice_set t1 at e) at y) u ≡ slice_get t1 u
    other u ne = set_other (slice_set t1 at e) at u y ne ∙ set_other t1 at u e ne

    same : x ≡ node
    same = let q : Some x ≡ Some node = sym g1 ∙ f.same at (omega arith) ∙ g0 in cc
