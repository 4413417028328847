-- The first ways of a node, as its k least derivations.
use Rattle.std.proofs.Common.{◌≡◌, ℕ, suc, ◌<◌, ◌≤◌, ◌⊎◌, List, [], ◌∷◌, length, sym, refl, subst, inl, inr, arith, ◌++◌, ◌∙◌}
use Rattle.std.proofs.lemmas.Bool.{cases_order}
use Rattle.fare_law.specs.Lists.{IsIn, EachPair, Each}
use Rattle.best_k.specs.declared.lattice.Derivation.{Derivation}
use Rattle.best_k.specs.declared.table.Way.{Way}
use Rattle.best_k.specs.Derivations.{Shape, Derives, Under, BestDerivations, LatticeLaws}
use Rattle.best_k.specs.Ranked.{Nth, ranked, AreFirstDerivations}
use Rattle.best_k.specs.Ways.{IsWay, HasRank}
use Rattle.best_k.proofs.Places.{nth_in, in_nth, nth_short, nth_some, nth_one, nth_more}
use Rattle.best_k.proofs.Ranks.{nth_under}
use Rattle.best_k.proofs.Ranked.{ranked_ascending, ranked_are, ranked_has}

-- The k least derivations, from a list of those of the first ranks.
pub first_ranks_best : (l : Shape) → LatticeLaws l → (node k : ℕ) (ds : List Derivation) → node < l.nodes
    → AreFirstDerivations l node ds → length ds ≤ k → (length ds ≡ k) ⊎ (length ds ≡ length (ranked l node))
    → BestDerivations l node k ds
first_ranks_best l laws node k ds n h few full = record {
  ascending = up ds (λ i j x y a b lt. nth_under (ranked l node) i j x y (ranked_ascending l node) (h i x a) (h j y b) lt);
  each = all ds (λ i d a. ranked_are l node d (nth_in (ranked l node) i d (h i d a)));
  few = few;
  rest = λ d has out.
      let p = in_nth (ranked l node) d (ranked_has l laws node d n has) in
      let past : length ds ≤ p.0 = elim (cases_order p.0 (length ds)) [
        | inl e ↦ omega arith
        | inr o ↦ elim o [
          | inl lt ↦ let y = nth_some ds p.0 lt in
              absurd (out (subst (λ z. IsIn z ds) (nth_one (ranked l node) p.0 y.0 d (h p.0 y.0 y.1) p.1) (nth_in ds p.0 y.0 y.1)))
          | inr gt ↦ omega arith
        ]
      ] in
      (below ds (λ i y a. nth_under (ranked l node) i p.0 y d (ranked_ascending l node) (h i y a) p.1 (let s = nth_short ds i y a in omega arith)), elim full [ inl e ↦ e | inr e ↦ let s = nth_short (ranked l node) p.0 d p.1 in absurd (omega arith) ]);
}
  where
    up : (xs : List Derivation) → ((i j : ℕ) (x y : Derivation) → Nth xs i x → Nth xs j y → i < j → Under x y)
        → EachPair Under xs
    up [] f = tt
    up (x ∷ []) f = tt
    up (x ∷ y ∷ ys) f = (f 0 1 x y refl refl (omega arith), up (y ∷ ys) (λ i j a b p q lt. f (suc i) (suc j) a b p q (omega arith)))

    all : (xs : List Derivation) → ((i : ℕ) (d : Derivation) → Nth xs i d → Derives l node d)
        → Each (Derives l node) xs
    all [] f = tt
    all (x ∷ xs) f = (f 0 x refl, all xs (λ i d a. f (suc i) d a))

    below : (xs : List Derivation) {d : Derivation} → ((i : ℕ) (y : Derivation) → Nth xs i y → Under y d)
        → Each (λ y. Under y d) xs
    below [] f = tt
    below (x ∷ xs) f = (f 0 x refl, below xs (λ i y a. f (suc i) y a))

-- one more derivation is found
pub found_more : (l : Shape) (node rank : ℕ) (ds : List Derivation) (way : Way) (e : Derivation)
    → HasRank l node way rank → e.price ≡ way.price
    → ((d : Derivation) → IsWay l node way d → e.word ≡ d.word) → length ds ≡ rank
    → AreFirstDerivations l node ds → AreFirstDerivations l node (ds ++ e ∷ [])
found_more l node rank ds way e h p w len all i d k = elim (nth_more ds e i d k) [
  | inl a ↦ all i d a
  | inr (a, s) ↦
      let same : h.derivation ≡ d = (λ j. record { price = (sym (p ∙ h.is.price)) j; word = (sym (w h.derivation h.is)) j }) ∙ sym s in
      subst (λ z. Nth (ranked l node) z d) (sym (a ∙ len)) (subst (λ z. Nth (ranked l node) rank z) same h.at_rank)
]
