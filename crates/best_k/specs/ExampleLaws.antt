-- The laws of the lattices that the tests draw from. They stand here since an `impl` cites lemmas of `specs` alone.
use Rattle.std.proofs.Common.{◌≡◌, ℕ, zero, suc, ◌<◌, ◌≤◌, List, [], ◌∷◌, length, sym, refl, ap, subst, arith, ◌+◌, ◌++◌, length-append, Option, Some, None, ◌∙◌, ◌*◌, MatchOption, lit≤}
use Rattle.fare_law.specs.Lists.{IsPrefix}
use Rattle.best_k.specs.declared.lattice.Choice.TheVariants.{Leaf, Pair}
use Rattle.best_k.specs.Derivations.{DerivesBy, by_leaf, by_first, by_pair, LatticeLaws}
use Rattle.best_k.specs.Examples.{sparse, sparse_choices, doubling_choices, doubling_choice, doubling}

bound : ℕ → ℕ
bound zero = 1
bound (suc n) = bound n + bound n

named : (node at first : ℕ) (rest : Option ℕ) → doubling_choice node at ≡ Pair first rest
    → (node ≡ suc first) × (rest ≡ Some first)
named zero zero first rest e = absurd (cc)
named zero (suc at) first rest e = absurd (cc)
named (suc n) at first rest e = let a : n ≡ first = cc in let b : Some n ≡ rest = cc in (ap suc a, sym b ∙ ap Some a)

leaf_small : (node at price : ℕ) (word : List ℕ) → doubling_choice node at ≡ Leaf price word
    → (node ≡ 0) × (price ≤ 5) × (length word ≡ 1)
leaf_small zero zero price word e = let a : 5 ≡ price = cc in let b : 1 ∷ [] ≡ word = cc in (refl, omega arith, ap length (sym b))
leaf_small zero (suc at) price word e = let a : 3 ≡ price = cc in let b : 2 ∷ [] ≡ word = cc in (refl, omega arith, ap length (sym b))
leaf_small (suc n) at price word e = absurd (cc)

within : (node at p : ℕ) (w : List ℕ) → DerivesBy doubling node at p w
    → (p ≤ 5 * bound node) × (length w ≤ bound node)
unfolding bound
within node at p w (by_leaf k e) = let s = leaf_small node at p w e in subst (λ z. (p ≤ 5 * bound z) × (length w ≤ bound z)) (sym s.0) (omega (arith, s.1), omega (arith, s.2))
within node at p w (by_first first by k e d) = let s = named node at first None e in absurd (none first s.1)
  where
    none : (n : ℕ) → None ≡ Some n → ⊥
    none n x = cc
within node at p w (by_pair {p = p1} {r = p2} {v = v} {w = u} first rest by by2 k e d g) =
    let s = named node at first (Some rest) e in
    let r : rest ≡ first = let x = s.1 in cc in
    let a = within first by p1 v d in
    let b = subst (λ z. (p2 ≤ 5 * bound z) × (length u ≤ bound z)) r (within rest by2 p2 u g) in
    subst (λ z. (p1 + p2 ≤ 5 * bound z) × (length (v ++ u) ≤ bound z)) (sym s.0) (omega (arith, a.0, b.0), omega (arith, a.1, b.1, length-append v u))

few : (n : ℕ) → n < 7 → bound n ≤ 64
unfolding bound
few zero h = lit≤ tt
few (suc zero) h = lit≤ tt
few (suc (suc zero)) h = lit≤ tt
few (suc (suc (suc zero))) h = lit≤ tt
few (suc (suc (suc (suc zero)))) h = lit≤ tt
few (suc (suc (suc (suc (suc zero))))) h = lit≤ tt
few (suc (suc (suc (suc (suc (suc zero)))))) h = lit≤ tt
few (suc (suc (suc (suc (suc (suc (suc n))))))) h = absurd (omega arith)

abbrev first_of : List ℕ → ℕ
first_of [] = 0
first_of (x ∷ xs) = x

leaf_apart : (at at' p r : ℕ) (v w : List ℕ) → at < 2 → at' < 2 → doubling_choice 0 at ≡ Leaf p v
    → doubling_choice 0 at' ≡ Leaf r w → IsPrefix v w → at ≡ at'
leaf_apart zero zero p r v w h k e f x = refl
leaf_apart (suc zero) (suc zero) p r v w h k e f x = refl
leaf_apart zero (suc zero) p r v w h k e f x = let a : 1 ∷ [] ≡ v = cc in let b : 2 ∷ [] ≡ w = cc in let c : 2 ∷ [] ≡ (1 ∷ []) ++ x.0 = b ∙ x.1 ∙ ap (λ z. z ++ x.0) (sym a) in absurd (omega (arith, ap first_of c))
leaf_apart (suc zero) zero p r v w h k e f x = let a : 2 ∷ [] ≡ v = cc in let b : 1 ∷ [] ≡ w = cc in let c : 1 ∷ [] ≡ (2 ∷ []) ++ x.0 = b ∙ x.1 ∙ ap (λ z. z ++ x.0) (sym a) in absurd (omega (arith, ap first_of c))
leaf_apart (suc (suc at)) at' p r v w h k e f x = absurd (omega arith)
leaf_apart zero (suc (suc at')) p r v w h k e f x = absurd (omega arith)
leaf_apart (suc zero) (suc (suc at')) p r v w h k e f x = absurd (omega arith)

chosen : (node at p : ℕ) (w : List ℕ) → DerivesBy doubling node at p w → at < doubling_choices node
chosen node at p w (by_leaf k e) = k
chosen node at p w (by_first first by k e d) = k
chosen node at p w (by_pair first rest by by2 k e d g) = k

at_leaf : (at p : ℕ) (w : List ℕ) → DerivesBy doubling 0 at p w → doubling_choice 0 at ≡ Leaf p w
at_leaf at p w d = go 0 at p w refl d
  where
    go : (node at p : ℕ) (w : List ℕ) → node ≡ 0 → DerivesBy doubling node at p w
        → doubling_choice 0 at ≡ Leaf p w
    go node at p w z (by_leaf k e) = subst (λ n. doubling_choice n at ≡ Leaf p w) z e
    go node at p w z (by_first first by k e d) = let s = named node at first None e in absurd (omega (arith, s.0))
    go node at p w z (by_pair first rest by by2 k e d g) = let s = named node at first (Some rest) e in absurd (omega (arith, s.0))

apart : (node at at' p r : ℕ) (v w : List ℕ) → node < 7 → DerivesBy doubling node at p v
    → DerivesBy doubling node at' r w → IsPrefix v w → at ≡ at'
apart zero at at' p r v w h d e x = leaf_apart at at' p r v w (chosen 0 at p v d) (chosen 0 at' r w e) (at_leaf at p v d) (at_leaf at' r w e) x
apart (suc n) at at' p r v w h d e x = let a = chosen (suc n) at p v d in let b = chosen (suc n) at' r w e in omega arith

pub doubling_laws : LatticeLaws doubling
doubling_laws = record {
  smaller = λ node at first rest h k e. let s = named node at first rest e in (omega (arith, s.0), subst (λ z. MatchOption z (Unit {0}) (λ r. r < node)) (sym s.1) (omega (arith, s.0)));
  apart = apart;
  small = λ node at p w h d. let a = within node at p w d in let b = few node h in (omega arith, omega arith);
}

one_choice : (node : ℕ) → sparse_choices node ≤ 1
one_choice zero = omega arith
one_choice (suc n) = omega arith

one_leaf : (node at p : ℕ) (w : List ℕ) → DerivesBy sparse node at p w
    → (at < sparse_choices node) × (p ≡ 4) × (length w ≡ 1)
one_leaf node at p w (by_leaf k e) = let a : 4 ≡ p = cc in let b : 7 ∷ [] ≡ w = cc in (k, sym a, ap length (sym b))
one_leaf node at p w (by_first first by k e d) = absurd (cc)
one_leaf node at p w (by_pair first rest by by2 k e d g) = absurd (cc)

pub sparse_laws : LatticeLaws sparse
sparse_laws = record {
  smaller = λ node at first rest h k e. absurd (cc);
  apart = λ node at at' p r v w h d e x. let a = one_leaf node at p v d in let b = one_leaf node at' r w e in omega (arith, a.0, b.0, one_choice node);
  small = λ node at p w h d. let a = one_leaf node at p w d in (omega (arith, a.1), omega (arith, a.2));
}
