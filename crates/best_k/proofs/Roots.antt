-- The least way drawn, and the least way of each other choice in the queue, are a frontier.
use Rattle.std.proofs.Common.{◌≡◌, ℕ, zero, suc, ◌<◌, ◌≢◌, List, [], ◌∷◌, sym, refl, ap, subst, inl, inr, arith, ◌+◌, Option, Some, None, ◌∙◌, MatchOption}
use Rattle.std.proofs.lemmas.Bool.{cases_order}
use Rattle.fare_law.specs.Lists.{IsIn}
use Rattle.best_k.specs.declared.table.Progress.{Progress}
use Rattle.best_k.specs.declared.table.Way.{Way}
use Rattle.best_k.specs.Derivations.{Shape, LatticeLaws}
use Rattle.best_k.specs.Ranked.{Nth}
use Rattle.best_k.specs.Ways.{HasRank, Offered}
use Rattle.best_k.specs.Frontiers.{Frontier, with_option, BegunTo}
use Rattle.best_k.specs.Queues.{IsOffered}
use Rattle.best_k.proofs.Places.{different_option}
use Rattle.best_k.proofs.Ways.{rank_same, rank_fewer}
use Rattle.best_k.proofs.Followers.{offered_in, behind}
use Rattle.best_k.proofs.Reordered.{Moves, moves_permutation}
use Rattle.best_k.proofs.Swaps.{moves_different}

pub begun_none : (l : Shape) (node : ℕ) (least : Way) → BegunTo l node least 0 []
begun_none l node least = record { roots = λ q i. absurd i; different = λ i j w h k. absurd h; complete = λ g s h lt. absurd (omega arith) }

pub begun_same : (l : Shape) (node : ℕ) (least : Way) (c : ℕ) (queue : List Way) → c ≡ least.at
    → BegunTo l node least c queue → BegunTo l node least (c + 1) queue
begun_same l node least c queue e b = record {
  roots = λ q i. let r = b.roots q i in (r.0, r.1, omega (arith, r.2), r.3, r.4);
  different = b.different;
  complete = λ g s h lt ne f k. elim (cases_order g.at c) [
    | inl a ↦ absurd (ne (a ∙ e))
    | inr o ↦ elim o [ inl less ↦ b.complete g s h less ne f k | inr gt ↦ absurd (omega arith) ]
  ];
}

begun_more : (l : Shape) → LatticeLaws l
    → (node : ℕ) (least : Way) (c : ℕ) (queue queue' : List Way) (o : Option Way) → node < l.nodes
    → c ≢ least.at → BegunTo l node least c queue → Offered l node c 0 0 o
    → Moves (with_option o queue) queue' → BegunTo l node least (c + 1) queue'
begun_more l laws node least c queue queue' o n ne b h mv = record {
  roots = λ q i. go o h q (mv.back q i);
  different = moves_different (with_option o queue) queue' mv (different_option o queue (apart o h) b.different);
  complete = λ g s y lt nt f k. elim (cases_order g.at c) [
    | inl a ↦ mv.to g (offered_in l laws node c 0 0 o queue g s n h a f k y)
    | inr p ↦ elim p [ inl less ↦ mv.to g (behind o queue g (b.complete g s y less nt f k)) | inr gt ↦ absurd (omega arith) ]
  ];
}
  where
    go : (o : Option Way) → Offered l node c 0 0 o → (q : Way) → IsIn q (with_option o queue)
        → (q.first ≡ 0) × (q.rest ≡ 0) × (q.at < c + 1) × (q.at ≢ least.at) × ((r : ℕ) × HasRank l node q r)
    go None h q i = let r = b.roots q i in (r.0, r.1, omega (arith, r.2), r.3, r.4)
    go (Some w) h q (inl e) = subst (λ z. (z.first ≡ 0) × (z.rest ≡ 0) × (z.at < c + 1) × (z.at ≢ least.at) × ((r : ℕ) × HasRank l node z r)) (sym e) (h.1, h.2, omega (arith, h.0), (λ s. ne (sym h.0 ∙ s)), h.3)
    go (Some w) h q (inr i) = let r = b.roots q i in (r.0, r.1, omega (arith, r.2), r.3, r.4)

    apart : (o : Option Way) → Offered l node c 0 0 o → MatchOption o (Unit {0}) (λ w. IsIn w queue → ⊥)
    apart None h = tt
    apart (Some w) h = λ i. let r = b.roots w i in omega (arith, r.2, h.0)

-- The queue has the least way of each other choice.
pub begun : (l : Shape) → LatticeLaws l → (node : ℕ) (least : Way) (queue : List Way) → node < l.nodes
    → HasRank l node least 0 → least.first ≡ 0 → least.rest ≡ 0 → BegunTo l node least (l.choices node) queue
    → Frontier l node (least ∷ []) queue 0
begun l laws node least queue n h e0 e1 b = record {
  first = λ i w k. first i w k;
  waits = λ q i.
      let r = b.roots q i in
      elim (cases_order r.4.0 0) [
        | inl e ↦ absurd (r.3 (ap (λ z. z.at) (rank_same l laws node q least 0 n (subst (λ z. HasRank l node q z) e r.4.1) h)))
        | inr o ↦ elim o [ inl lt ↦ absurd (omega arith) | inr gt ↦ (r.4.0, (omega arith, r.4.1)) ]
      ];
  different = b.different;
  follows = λ q i. let r = b.roots q i in inl (r.0, r.1);
  covers = λ g s y. elim (cases_order g.at least.at) [
    | inl e ↦ inr (least, ((sym e, inr (e1, omega arith)), inr (0, (omega arith, refl))))
    | inr o ↦
        let ne : g.at ≢ least.at = λ s. elim o [ inl lt ↦ omega arith | inr gt ↦ omega arith ] in
        let q = rank_fewer l laws node g s 0 0 n (omega arith) (omega arith) y in
        inr (q.0, ((q.1.0, inr (q.1.2, omega (arith, q.1.1))), inl (b.complete q.0 q.1.3.0 q.1.3.1 (subst (λ z. z < l.choices node) (sym q.1.0) y.is.there) (λ s. ne (sym q.1.0 ∙ s)) q.1.1 q.1.2)))
  ];
}
  where
    first : (i : ℕ) (w : Way) → Nth (least ∷ []) i w → HasRank l node w i
    first zero w k = subst (λ z. HasRank l node z 0) (sym k) h
    first (suc i) w k = absurd k

pub begun_offered : (l : Shape) → LatticeLaws l
    → (t : List Progress) (node : ℕ) (least : Way) (c : ℕ) (queue queue' : List Way) → node < l.nodes
    → c ≢ least.at → BegunTo l node least c queue → IsOffered l t node c 0 0 queue queue'
    → BegunTo l node least (c + 1) queue'
begun_offered l laws t node least c queue queue' n ne b o = begun_more l laws node least c queue queue' o.way n ne b o.offered (moves_permutation _ _ o.moves)
