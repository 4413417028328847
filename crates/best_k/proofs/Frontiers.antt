-- The least way that waits is the next, and drawing it keeps the frontier.
use Rattle.std.proofs.Common.{◌≡◌, ℕ, ◌<◌, ◌≤◌, List, [], ◌∷◌, length, sym, refl, subst, inl, inr, arith, ◌-◌, ◌++◌, length-append}
use Rattle.std.proofs.lemmas.Bool.{cases_order}
use Rattle.fare_law.specs.Lists.{IsIn}
use Rattle.best_k.specs.declared.table.Way.{Way}
use Rattle.best_k.specs.Derivations.{Shape, LatticeLaws}
use Rattle.best_k.specs.Ranked.{Nth, ranked}
use Rattle.best_k.specs.Ways.{HasRank}
use Rattle.best_k.specs.Frontiers.{AreFirst, Frontier}
use Rattle.best_k.proofs.Places.{in_nth, nth_short, nth_some, nth_left, nth_last, nth_more, in_left, different_rest, different_head}
use Rattle.best_k.proofs.Ways.{rank_one, rank_same, rank_some, rank_short}
use Rattle.best_k.proofs.Leading.{leads_rank}
use Rattle.best_k.proofs.Reordered.{Moves}
use Rattle.best_k.proofs.Swaps.{moves_different}

pub drawn_few : (l : Shape) (node : ℕ) (drawn : List Way) → AreFirst l node drawn
    → length drawn ≤ length (ranked l node)
drawn_few l node drawn first =
    elim (cases_order (length drawn) 0) [
      | inl e ↦ omega arith
      | inr o ↦ elim o [
        | inl lt ↦ absurd (omega arith)
        | inr gt ↦ let w = nth_some drawn (length drawn - 1) (omega arith) in
            let k = rank_short l node w.0 (length drawn - 1) (first (length drawn - 1) w.0 w.1) in
            omega arith
      ]
    ]

-- Where every drawn way's followers wait, the next rank comes after something that waits.
next_waits : (l : Shape) → LatticeLaws l → (node : ℕ) (drawn queue : List Way) → node < l.nodes
    → Frontier l node drawn queue (length drawn) → length drawn < length (ranked l node)
    → (q : Way) × (IsIn q queue × HasRank l node q (length drawn))
next_waits l laws node drawn queue n f h =
    let g = rank_some l laws node (length drawn) n h in
    elim (f.covers g.0 (length drawn) g.1) [
      | inl i ↦ let k = in_nth drawn g.0 i in
          let e = rank_one l node g.0 k.0 (length drawn) (f.first k.0 g.0 k.1) g.1 in
          let t = nth_short drawn k.0 g.0 k.1 in
          absurd (omega arith)
      | inr (q, (leads, c)) ↦ elim c [
        | inr (i, (k, x)) ↦ let t = nth_short drawn i q x in absurd (omega arith)
        | inl i ↦ let w = f.waits q i in
            let k = leads_rank l laws node q g.0 w.0 (length drawn) n leads w.1.1 g.1 in
            (q, (i, subst (λ z. HasRank l node q z) (omega (arith, k, w.1.0)) w.1.1))
      ]
    ]

-- The least that waits is the next.
least_is_next : (l : Shape) → LatticeLaws l → (node : ℕ) (drawn queue : List Way) (q : Way) (r : ℕ)
    → node < l.nodes → Frontier l node drawn queue (length drawn) → IsIn q queue → HasRank l node q r
    → ((x : Way) (s : ℕ) → IsIn x queue → HasRank l node x s → r ≤ s) → r ≡ length drawn
least_is_next l laws node drawn queue q r n f i h least =
    let w = f.waits q i in
    let e = rank_one l node q w.0 r w.1.1 h in
    let t = rank_short l node q r h in
    let x = next_waits l laws node drawn queue n f (omega (arith, w.1.0)) in
    let k = least x.0 (length drawn) x.1.0 x.1.1 in
    omega (arith, w.1.0)

-- Where nothing waits, everything is drawn.
pub all_drawn : (l : Shape) → LatticeLaws l → (node : ℕ) (drawn : List Way) → node < l.nodes
    → Frontier l node drawn [] (length drawn) → length drawn ≡ length (ranked l node)
all_drawn l laws node drawn n f =
    let k = drawn_few l node drawn f.first in
    elim (cases_order (length drawn) (length (ranked l node))) [
      | inl e ↦ e
      | inr o ↦ elim o [
        | inl lt ↦ absurd ((next_waits l laws node drawn [] n f lt).1.0)
        | inr gt ↦ absurd (omega arith)
      ]
    ]

-- The least that waits is drawn.
pub popped : (l : Shape) → LatticeLaws l → (node : ℕ) (drawn queue rest : List Way) (q : Way) (r : ℕ)
    → node < l.nodes → Frontier l node drawn queue (length drawn) → Moves queue (q ∷ rest)
    → HasRank l node q r → ((x : Way) (s : ℕ) → IsIn x queue → HasRank l node x s → r ≤ s)
    → Frontier l node (drawn ++ q ∷ []) rest (length drawn)
popped l laws node drawn queue rest q r n f m h least =
    let e = least_is_next l laws node drawn queue q r n f (m.back q (inl refl)) h least in
    let hq : HasRank l node q (length drawn) = subst (λ z. HasRank l node q z) e h in
    let d = moves_different queue (q ∷ rest) m f.different in
    record {
      first = λ i w k. elim (nth_more drawn q i w k) [
        | inl x ↦ f.first i w x
        | inr (a, b) ↦ subst (λ z. HasRank l node w z) (sym a) (subst (λ z. HasRank l node z (length drawn)) (sym b) hq)
      ];
      waits = λ x i.
          let w = f.waits x (m.back x (inr i)) in
          elim (cases_order w.0 (length drawn)) [
            | inl same ↦ absurd (different_head q rest d (subst (λ z. IsIn z rest) (rank_same l laws node x q (length drawn) n (subst (λ z. HasRank l node x z) same w.1.1) hq) i))
            | inr o ↦ elim o [
              | inl lt ↦ absurd (omega (arith, w.1.0))
              | inr gt ↦ (w.0, (omega (arith, length-append drawn (q ∷ [])), w.1.1))
            ]
          ];
      different = different_rest q rest d;
      follows = λ x i. elim (f.follows x (m.back x (inr i))) [ inl a ↦ inl a | inr (a, p, (lt, (k, fo))) ↦ inr (a, p, (lt, (nth_left drawn (q ∷ []) a p k, fo))) ];
      covers = λ g s k. elim (f.covers g s k) [
        | inl i ↦ inl (in_left drawn (q ∷ []) g i)
        | inr (p, (le, c)) ↦ inr (
          p,
          (
            le,
            elim c [
              | inl i ↦ elim (m.to p i) [
                | inl same ↦ inr (length drawn, (omega arith, subst (λ z. Nth (drawn ++ q ∷ []) (length drawn) z) (sym same) (nth_last drawn q)))
                | inr j ↦ inl j
              ]
              | inr (a, (lt, x)) ↦ let t = nth_short drawn a p x in absurd (omega arith)
            ],
          ),
        )
      ];
    }
