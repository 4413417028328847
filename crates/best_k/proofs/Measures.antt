-- What a choice and ranks of parts measure, read from the drawn parts.
use Rattle.std.proofs.Common.{◌≡◌, ℕ, ◌<◌, ◌≤◌, List, length, sym, refl, subst, inl, inr, arith, ◌+◌, ◌^◌, length-append, Some, None}
use Rattle.fare_law.specs.declared.limits.TheConstants.{CODE_NUMBERS}
use Rattle.best_k.specs.declared.lattice.Choice.TheVariants.{Leaf, Pair}
use Rattle.best_k.specs.declared.lattice.Derivation.{Derivation}
use Rattle.best_k.specs.declared.table.Progress.{Progress}
use Rattle.best_k.specs.declared.table.Way.{Way}
use Rattle.best_k.specs.Derivations.{Shape, LatticeLaws}
use Rattle.best_k.specs.Ranked.{Nth, join, ranked}
use Rattle.best_k.specs.Ways.{HasRank, IsMeasure}
use Rattle.best_k.specs.Tables.{count, IsDrawnTo}
use Rattle.best_k.proofs.Places.{nth_short}
use Rattle.best_k.proofs.Parts.{parts_derive}
use Rattle.best_k.proofs.Ways.{way_ranked}

pub leaf_measure : (l : Shape) (node at i j price : ℕ) (word : List ℕ) → l.choice node at ≡ Leaf price word
    → i ≡ 0 → j ≡ 0 → IsMeasure l (l.choice node at) i j (Some (price, length word))
leaf_measure l node at i j price word c e f = subst (λ z. IsMeasure l z i j (Some (price, length word))) (sym c) (record { price = price; word = word }, (e, f, refl), refl, refl)

pub alone_measure : (l : Shape) (node at one i j : ℕ) (part : Way) → l.choice node at ≡ Pair one None
    → HasRank l one part i → j ≡ 0 → IsMeasure l (l.choice node at) i j (Some (part.price, part.length))
alone_measure l node at one i j part c x e = subst (λ z. IsMeasure l z i j (Some (part.price, part.length))) (sym c) (x.derivation, (e, x.at_rank), x.is.price, x.is.length)

pub pair_measure : (l : Shape) (node at one other i j : ℕ) (part more : Way)
    → l.choice node at ≡ Pair one (Some other) → HasRank l one part i → HasRank l other more j
    → IsMeasure l (l.choice node at) i j (Some (part.price + more.price, part.length + more.length))
pair_measure l node at one other i j part more c x y =
    subst (λ z. IsMeasure l z i j (Some (part.price + more.price, part.length + more.length))) (sym c) (
      join x.derivation y.derivation,
      (x.derivation, y.derivation, x.at_rank, y.at_rank, refl),
      omega (arith, x.is.price, y.is.price),
      omega (arith, x.is.length, y.is.length, length-append x.derivation.word y.derivation.word),
    )

-- the sums are small
pub pair_small : (l : Shape) → LatticeLaws l → (node at one other i j : ℕ) (part more : Way) → node < l.nodes
    → at < l.choices node → l.choice node at ≡ Pair one (Some other) → HasRank l one part i
    → HasRank l other more j → (part.price + more.price < 2 ^ 63) × (part.length + more.length ≤ CODE_NUMBERS)
pair_small l laws node at one other i j part more n h c x y =
    let d = join x.derivation y.derivation in
    let s = laws.small node at d.price d.word n (parts_derive l node at i j d h (Pair one (Some other)) c (x.derivation, y.derivation, x.at_rank, y.at_rank, refl)) in
    (omega (arith, s.0, x.is.price, y.is.price), omega (arith, s.1, x.is.length, y.is.length, length-append x.derivation.word y.derivation.word))

past : (l : Shape) (t : List Progress) (u i : ℕ) (d : Derivation) → IsDrawnTo l t u i → count t u ≤ i
    → Nth (ranked l u) i d → ⊥
past l t u i d (inl lt) le k = omega arith
past l t u i d (inr e) le k = let s = nth_short (ranked l u) i d k in omega arith

pub no_alone : (l : Shape) (t : List Progress) (node at i j one : ℕ) → l.choice node at ≡ Pair one None
    → IsDrawnTo l t one i → count t one ≤ i → IsMeasure l (l.choice node at) i j None
no_alone l t node at i j one c known le = subst (λ z. IsMeasure l z i j None) (sym c) (λ d p. past l t one i d known le p.1)

pub no_first : (l : Shape) (t : List Progress) (node at i j one other : ℕ)
    → l.choice node at ≡ Pair one (Some other) → IsDrawnTo l t one i → count t one ≤ i
    → IsMeasure l (l.choice node at) i j None
no_first l t node at i j one other c known le = subst (λ z. IsMeasure l z i j None) (sym c) (λ d p. past l t one i p.0 known le p.2)

pub no_second : (l : Shape) (t : List Progress) (node at i j one other : ℕ)
    → l.choice node at ≡ Pair one (Some other) → IsDrawnTo l t other j → count t other ≤ j
    → IsMeasure l (l.choice node at) i j None
no_second l t node at i j one other c known le = subst (λ z. IsMeasure l z i j None) (sym c) (λ d p. past l t other j p.1 known le p.3)

-- what is measured is a way
pub way_measured : (l : Shape) → LatticeLaws l → (node : ℕ) (w : Way) → node < l.nodes → w.at < l.choices node
    → IsMeasure l (l.choice node w.at) w.first w.rest (Some (w.price, w.length))
    → (r : ℕ) × HasRank l node w r
way_measured l laws node w n h m = way_ranked l laws node w m.0 n (record { there = h; parts = m.1; price = m.2; length = m.3 })
