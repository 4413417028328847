-- A choice names smaller nodes, and no word of a node's derivations begins with another.
use Rattle.std.proofs.Common.{◌≡◌, ℕ, ◌<◌, ◌≤◌, ◌⊎◌, List, sym, refl, ap, subst, inl, inr, arith, ◌++◌, Some, None, ◌∙◌}
use Rattle.fare_law.specs.Lists.{IsPrefix}
use Rattle.best_k.specs.declared.lattice.Choice.{Choice}
use Rattle.best_k.specs.declared.lattice.Choice.TheVariants.{Leaf, Pair}
use Rattle.best_k.specs.declared.lattice.Derivation.{Derivation}
use Rattle.best_k.specs.Derivations.{Shape, DerivesBy, by_leaf, by_first, by_pair, Derives, LatticeLaws}
use Rattle.best_k.proofs.Orders.{fronts_long, cancel_front}

-- the nodes that a choice names
abbrev pub Inside : ℕ → Choice → Type 0
Inside n (Leaf price word) = Unit {0}
Inside n (Pair first None) = first < n
Inside n (Pair first (Some rest)) = (first < n) × (rest < n)

inside_at : (l : Shape) → LatticeLaws l → (node at : ℕ) → node < l.nodes → at < l.choices node → (c : Choice)
    → l.choice node at ≡ c → Inside node c
inside_at l laws node at h k (Leaf price word) e = tt
inside_at l laws node at h k (Pair first None) e = (laws.smaller node at first None h k e).0
inside_at l laws node at h k (Pair first (Some rest)) e = let s = laws.smaller node at first (Some rest) h k e in (s.0, s.1)

-- a choice names smaller nodes
pub inside : (l : Shape) → LatticeLaws l → (node at : ℕ) → node < l.nodes → at < l.choices node
    → Inside node (l.choice node at)
inside l laws node at h k = inside_at l laws node at h k (l.choice node at) refl

inside_more : (m n : ℕ) (c : Choice) → m ≤ n → Inside m c → Inside n c
inside_more m n (Leaf price word) h k = tt
inside_more m n (Pair first None) h k = omega arith
inside_more m n (Pair first (Some rest)) h k = (omega arith, omega arith)

pub named : (l : Shape) → LatticeLaws l → (node at : ℕ) → node < l.nodes → at < l.choices node
    → Inside l.nodes (l.choice node at)
named l laws node at h k = inside_more node l.nodes (l.choice node at) (omega arith) (inside l laws node at h k)

-- one is a front of the other
abbrev pub Comparable : List ℕ → List ℕ → Type 0
Comparable v w = IsPrefix v w ⊎ IsPrefix w v

pub choices_same : (l : Shape) → LatticeLaws l → (node at p at' r : ℕ) (v w : List ℕ)
    → DerivesBy l node at p v → DerivesBy l node at' r w → node < l.nodes → Comparable v w → at ≡ at'
choices_same l laws node at p at' r v w d e h (inl f) = laws.apart node at at' p r v w h d e f
choices_same l laws node at p at' r v w d e h (inr f) = sym (laws.apart node at' at r p w v h e d f)

-- No word of a node's derivations begins with another.
words_apart : (l : Shape) → LatticeLaws l → (node at p : ℕ) (v : List ℕ) → DerivesBy l node at p v
    → (at' r : ℕ) (w : List ℕ) → DerivesBy l node at' r w → node < l.nodes → Comparable v w
    → (p ≡ r) × (v ≡ w)
words_apart l laws node at p v (by_leaf k e) at' r w (by_leaf k' e') h f =
    let s = choices_same l laws node at p at' r v w (by_leaf k e) (by_leaf k' e') h f in
    let t : Leaf p v ≡ Leaf r w = sym e ∙ ap (λ z. l.choice node z) s ∙ e' in
    (cc, cc)
words_apart l laws node at p v (by_leaf k e) at' r w (by_first first' by' k' e' d') h f =
    let s = choices_same l laws node at p at' r v w (by_leaf k e) (by_first first' by' k' e' d') h f in
    let t : Leaf p v ≡ Pair first' None = sym e ∙ ap (λ z. l.choice node z) s ∙ e' in
    absurd (cc)
words_apart l laws node at p v (by_leaf k e) at' r w (by_pair first' rest' by' by2' k' e' d' g') h f =
    let s = choices_same l laws node at p at' _ v _ (by_leaf k e) (by_pair first' rest' by' by2' k' e' d' g') h f in
    let t : Leaf p v ≡ Pair first' (Some rest') = sym e ∙ ap (λ z. l.choice node z) s ∙ e' in
    absurd (cc)
words_apart l laws node at p v (by_first first by k e d) at' r w (by_leaf k' e') h f =
    let s = choices_same l laws node at p at' r v w (by_first first by k e d) (by_leaf k' e') h f in
    let t : Pair first None ≡ Leaf r w = sym e ∙ ap (λ z. l.choice node z) s ∙ e' in
    absurd (cc)
words_apart l laws node at p v (by_first first by k e d) at' r w (by_first first' by' k' e' d') h f =
    let s = choices_same l laws node at p at' r v w (by_first first by k e d) (by_first first' by' k' e' d') h f in
    let t : Pair first None ≡ Pair first' None = sym e ∙ ap (λ z. l.choice node z) s ∙ e' in
    let q : first' ≡ first = cc in
    let i = laws.smaller node at first None h k e in
    words_apart l laws first by p v d by' r w (subst (λ z. DerivesBy l z by' r w) q d') (omega (arith, i.0)) f
words_apart l laws node at p v (by_first first by k e d) at' r w (by_pair first' rest' by' by2' k' e' d' g') h f =
    let s = choices_same l laws node at p at' _ v _ (by_first first by k e d) (by_pair first' rest' by' by2' k' e' d' g') h f in
    let t : Pair first None ≡ Pair first' (Some rest') = sym e ∙ ap (λ z. l.choice node z) s ∙ e' in
    absurd (cc)
words_apart l laws node at p v (by_pair first rest by by2 k e d g) at' r w (by_leaf k' e') h f =
    let s = choices_same l laws node at _ at' r _ w (by_pair first rest by by2 k e d g) (by_leaf k' e') h f in
    let t : Pair first (Some rest) ≡ Leaf r w = sym e ∙ ap (λ z. l.choice node z) s ∙ e' in
    absurd (cc)
words_apart l laws node at p v (by_pair first rest by by2 k e d g) at' r w (by_first first' by' k' e' d') h f =
    let s = choices_same l laws node at _ at' r _ w (by_pair first rest by by2 k e d g) (by_first first' by' k' e' d') h f in
    let t : Pair first (Some rest) ≡ Pair first' None = sym e ∙ ap (λ z. l.choice node z) s ∙ e' in
    absurd (cc)
words_apart l laws node at p v (by_pair {p = p1} {r = p2} {v = v1} {w = v2} first rest by by2 k e d g) at' r w (by_pair {p = r1} {r = r2} {v = w1} {w = w2} first' rest' by' by2' k' e' d' g') h f =
    let s = choices_same l laws node at _ at' _ _ _ (by_pair first rest by by2 k e d g) (by_pair first' rest' by' by2' k' e' d' g') h f in
    let t : Pair first (Some rest) ≡ Pair first' (Some rest') = sym e ∙ ap (λ z. l.choice node z) s ∙ e' in
    let q : first' ≡ first = cc in
    let q2 : rest' ≡ rest = cc in
    let i = laws.smaller node at first (Some rest) h k e in
    let one = words_apart l laws first by p1 v1 d by' r1 w1 (subst (λ z. DerivesBy l z by' r1 w1) q d') (omega (arith, i.0)) (begin v1 w1 v2 w2 f) in
    let two = words_apart l laws rest by2 p2 v2 g by2' r2 w2 (subst (λ z. DerivesBy l z by2' r2 w2) q2 g') (omega (arith, i.1)) (end v1 w1 v2 w2 one.1 f) in
    (omega (arith, one.0, two.0), λ n. one.1 n ++ two.1 n)
  where
    begin : (v w x y : List ℕ) → Comparable (v ++ x) (w ++ y) → Comparable v w
    begin v w x y (inl f) = fronts_long v w x y f
    begin v w x y (inr f) = elim (fronts_long w v y x f) [ inl p ↦ inr p | inr p ↦ inl p ]

    end : (v w x y : List ℕ) → v ≡ w → Comparable (v ++ x) (w ++ y) → Comparable x y
    end v w x y e (inl f) = inl (cancel_front w x y (subst (λ z. IsPrefix (z ++ x) (w ++ y)) e f))
    end v w x y e (inr f) = inr (cancel_front w y x (subst (λ z. IsPrefix (w ++ y) (z ++ x)) e f))

pub derivations_apart : (l : Shape) → LatticeLaws l → (node : ℕ) (d e : Derivation) → node < l.nodes
    → Derives l node d → Derives l node e → IsPrefix d.word e.word → d ≡ e
derivations_apart l laws node d e h (at, k) (at', k') f = let r = words_apart l laws node at d.price d.word k at' e.price e.word k' h (inl f) in λ i. record { price = r.0 i; word = r.1 i }
