-- Putting what follows the last drawn way into the queue keeps the frontier.
use Rattle.std.proofs.Common.{◌≡◌, ℕ, suc, ◌<◌, ◌≤◌, ◌⊎◌, List, length, sym, ap, subst, inl, inr, arith, Option, Some, None, ◌∙◌, MatchOption}
use Rattle.std.proofs.lemmas.Bool.{cases_order}
use Rattle.fare_law.specs.Lists.{IsIn}
use Rattle.best_k.specs.declared.table.Way.{Way}
use Rattle.best_k.specs.Derivations.{Shape, LatticeLaws}
use Rattle.best_k.specs.Ranked.{Nth}
use Rattle.best_k.specs.Ways.{HasRank, Offered}
use Rattle.best_k.specs.Frontiers.{Leads, Follows, Frontier, with_option}
use Rattle.best_k.proofs.Places.{nth_in, nth_short, nth_one, different_option}
use Rattle.best_k.proofs.Ways.{rank_one, rank_fewer, by_ranks}
use Rattle.best_k.proofs.Leading.{follows_rank, follows_one, leads_on}
use Rattle.best_k.proofs.Reordered.{Moves}
use Rattle.best_k.proofs.Swaps.{moves_different}

pub offered_in : (l : Shape) → LatticeLaws l
    → (node at i j : ℕ) (o : Option Way) (ws : List Way) (g : Way) (s : ℕ) → node < l.nodes
    → Offered l node at i j o → g.at ≡ at → g.first ≡ i → g.rest ≡ j → HasRank l node g s
    → IsIn g (with_option o ws)
offered_in l laws node at i j None ws g s n o e f h k = absurd (o g s e f h k)
offered_in l laws node at i j (Some w) ws g s n o e f h k = inl (by_ranks l laws node g w s o.3.0 n (e ∙ sym o.0) (f ∙ sym o.1) (h ∙ sym o.2) k o.3.1)

pub behind : (o : Option Way) (ws : List Way) (g : Way) → IsIn g ws → IsIn g (with_option o ws)
behind None ws g i = i
behind (Some w) ws g i = inr i

-- what is new follows the last drawn way
abbrev IsFollower : Shape → ℕ → Way → Option Way → Type 0
IsFollower l node last None = Unit {0}
IsFollower l node last (Some w) = Follows last w × ((r : ℕ) × HasRank l node w r)

follower_in : (l : Shape) (node : ℕ) (last : Way) (o : Option Way) (ws : List Way) (x : Way)
    → IsFollower l node last o → IsIn x (with_option o ws)
    → (Follows last x × ((r : ℕ) × HasRank l node x r)) ⊎ IsIn x ws
follower_in l node last None ws x h i = inr i
follower_in l node last (Some w) ws x h (inl e) = inl (subst (λ z. Follows last z × ((r : ℕ) × HasRank l node z r)) (sym e) h)
follower_in l node last (Some w) ws x h (inr i) = inr i

-- a way that follows the last drawn one doesn't wait
not_waiting : (l : Shape) → LatticeLaws l → (node : ℕ) (drawn queue : List Way) (m : ℕ) (last x : Way)
    → node < l.nodes → Frontier l node drawn queue m → Nth drawn m last → Follows last x → IsIn x queue → ⊥
not_waiting l laws node drawn queue m last x n f k fo i =
    elim (f.follows x i) [
      | inl a ↦ no fo a
      | inr (a, p, (lt, (y, g))) ↦
          let e = follows_one p last x g fo in
          let s = by_ranks l laws node p last a m n e.0 e.1.0 e.1.1 (f.first a p y) (f.first m last k) in
          let t = rank_one l node last a m (subst (λ z. HasRank l node z a) s (f.first a p y)) (f.first m last k) in
          omega arith
    ]
  where
    no : Follows last x → ((x.first ≡ 0) × (x.rest ≡ 0)) → ⊥
    no (e, inl (f', h)) a = omega arith
    no (e, inr (f', h, k')) a = omega arith

follower_rest : (l : Shape) (node : ℕ) (last : Way) (o : Option Way)
    → Offered l node last.at last.first (suc last.rest) o → IsFollower l node last o
follower_rest l node last None h = tt
follower_rest l node last (Some w) h = ((sym h.0, inl (sym h.1, h.2)), h.3)

follower_first : (l : Shape) (node : ℕ) (last : Way) (o : Option Way) → last.rest ≡ 0
    → Offered l node last.at (suc last.first) 0 o → IsFollower l node last o
follower_first l node last None e h = tt
follower_first l node last (Some w) e h = ((sym h.0, inr (e, h.2, h.1)), h.3)

-- The ways that follow the last drawn one go into the queue.
pub expanded : (l : Shape) → LatticeLaws l
    → (node : ℕ) (drawn queue queue' : List Way) (m : ℕ) (last : Way) (o1 o2 : Option Way) → node < l.nodes
    → suc m ≡ length drawn → Nth drawn m last → Frontier l node drawn queue m
    → Offered l node last.at last.first (suc last.rest) o1
    → (last.rest ≡ 0 → Offered l node last.at (suc last.first) 0 o2) → (0 < last.rest → o2 ≡ None)
    → Moves (with_option o2 (with_option o1 queue)) queue' → Frontier l node drawn queue' (length drawn)
expanded l laws node drawn queue queue' m last o1 o2 n em k f h1 h2 h3 mv = record {
  first = f.first;
  waits = λ x i. elim (which x (mv.back x i)) [
    | inl (fo, (r, y)) ↦ let t = follows_rank l laws node last x m r n fo (f.first m last k) y in (r, (omega arith, y))
    | inr j ↦ f.waits x j
  ];
  different = moves_different (with_option o2 (with_option o1 queue)) queue' mv (different_option o2 (with_option o1 queue) (apart2 o2 follower2 h2 h3) (different_option o1 queue (apart1 o1 follower1) f.different));
  follows = λ x i. elim (which x (mv.back x i)) [
    | inl (fo, y) ↦ inr (m, last, (omega arith, (k, fo)))
    | inr j ↦ elim (f.follows x j) [ inl a ↦ inl a | inr (a, p, (lt, y)) ↦ inr (a, p, (omega arith, y)) ]
  ];
  covers = λ g s y. elim (f.covers g s y) [
    | inl i ↦ inl i
    | inr (q, (le, c)) ↦ elim c [
      | inl i ↦ inr (q, (le, inl (mv.to q (behind o2 (with_option o1 queue) q (behind o1 queue q i)))))
      | inr (a, (lt, x)) ↦
          let t = nth_short drawn a q x in
          let same : q ≡ last = nth_one drawn m q last (subst (λ z. Nth drawn z q) (omega arith) x) k in
          on_last g s y (subst (λ z. Leads z g) same le)
    ]
  ];
}
  where
    follower1 : IsFollower l node last o1
    follower1 = follower_rest l node last o1 h1

    follower2 : IsFollower l node last o2
    follower2 = elim (cases_order last.rest 0) [
      | inl e ↦ follower_first l node last o2 e (h2 e)
      | inr o ↦ elim o [ inl lt ↦ absurd (omega arith) | inr gt ↦ subst (λ z. IsFollower l node last z) (sym (h3 gt)) tt ]
    ]

    which : (x : Way) → IsIn x (with_option o2 (with_option o1 queue))
        → (Follows last x × ((r : ℕ) × HasRank l node x r)) ⊎ IsIn x queue
    which x i = elim (follower_in l node last o2 (with_option o1 queue) x follower2 i) [ inl a ↦ inl a | inr j ↦ follower_in l node last o1 queue x follower1 j ]

    apart1 : (o : Option Way) → IsFollower l node last o → MatchOption o (Unit {0}) (λ w. IsIn w queue → ⊥)
    apart1 None h = tt
    apart1 (Some w) h = λ i. not_waiting l laws node drawn queue m last w n f k h.0 i

    rest1 : (x : Way) → IsIn x (with_option o1 queue) → (x.rest ≡ suc last.rest) ⊎ IsIn x queue
    rest1 = elim o1 as (λ o. Offered l node last.at last.first (suc last.rest) o → (x : Way) → IsIn x (with_option o queue) → (x.rest ≡ suc last.rest) ⊎ IsIn x queue) [
      | None ↦ λ h x i. inr i
      | Some w ↦ λ h x i. elim i [ inl e ↦ inl (ap (λ z. z.rest) e ∙ h.2) | inr j ↦ inr j ]
    ] h1

    apart2 : (o : Option Way) → IsFollower l node last o
        → (last.rest ≡ 0 → Offered l node last.at (suc last.first) 0 o) → (0 < last.rest → o ≡ None)
        → MatchOption o (Unit {0}) (λ w. IsIn w (with_option o1 queue) → ⊥)
    apart2 None h a b = tt
    apart2 (Some w) h a b = λ i. elim (rest1 w i) [
      | inr j ↦ not_waiting l laws node drawn queue m last w n f k h.0 j
      | inl e ↦ elim (cases_order last.rest 0) [
        | inl z ↦ let t = a z in omega (arith, t.2)
        | inr o ↦ elim o [ inl lt ↦ omega arith | inr gt ↦ let t = b gt in cc ]
      ]
    ]

    on_last : (g : Way) (s : ℕ) → HasRank l node g s → Leads last g
        → IsIn g drawn ⊎ ((q : Way) × (Leads q g × (IsIn q queue' ⊎ ((i : ℕ) × ((length drawn ≤ i) × Nth drawn i q)))))
    on_last g s y le = elim (leads_on last g le) [
      | inl (a, b) ↦ inl (subst (λ z. IsIn z drawn) (by_ranks l laws node last g m s n le.0 a b (f.first m last k) y) (nth_in drawn m last k))
      | inr o ↦ elim o [
        | inl (a, b) ↦
            let q = rank_fewer l laws node g s last.first (suc last.rest) n (omega arith) b y in
            inr (q.0, ((q.1.0, inl (q.1.1 ∙ a, omega (arith, q.1.2))), inl (mv.to q.0 (behind o2 (with_option o1 queue) q.0 (offered_in l laws node last.at last.first (suc last.rest) o1 queue q.0 q.1.3.0 n h1 (q.1.0 ∙ sym le.0) q.1.1 q.1.2 q.1.3.1)))))
        | inr (a, b) ↦
            let q = rank_fewer l laws node g s (suc last.first) 0 n b (omega arith) y in
            inr (q.0, ((q.1.0, inr (q.1.2, omega (arith, q.1.1))), inl (mv.to q.0 (offered_in l laws node last.at (suc last.first) 0 o2 (with_option o1 queue) q.0 q.1.3.0 n (h2 a) (q.1.0 ∙ sym le.0) q.1.1 q.1.2 q.1.3.1))))
      ]
    ]
