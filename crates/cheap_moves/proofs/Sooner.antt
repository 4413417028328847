-- The comparison of moves by their totals and codes tells which is sooner.
use Rattle.std.proofs.Common.{◌≡◌, ◌∙◌, ℕ, ◌<◌, List, [], ◌∷◌, ◌++◌, length, ap, arith, refl, sym, inl, inr}
use Rattle.std.specs.declared.cmp.Ordering.{Ordering}
use Rattle.std.specs.declared.cmp.Ordering.TheVariants.{Less as Lower, Equal, Greater}
use Rattle.std.specs.Ordering.{MatchOrdering, nat_cmp, ordering_then}
use Rattle.std.specs.Cmp.Lexicographic.{slice_cmp}
use Rattle.std.specs.Cmp.{IsTotalOrder}
use Rattle.std.proofs.lemmas.Cmp.{ranked, then_total, on_total, nat_cmp_total, nat_list_cmp_total}
use Rattle.cheap_moves.specs.declared.least.CountedMove.{CountedMove}
use Rattle.cheap_moves.specs.LeastMoves.{IsSooner}
use Rattle.fare_law.specs.Codes.{move_code}
use Rattle.fare_law.specs.Lists.{Less}

abbrev pub code_of : CountedMove → List ℕ
code_of m = move_code m.chosen.mv

-- by the total, and then by the code
abbrev pub compare : CountedMove → CountedMove → Ordering
compare m n = ordering_then (nat_cmp m.total n.total) (slice_cmp nat_cmp (code_of m) (code_of n))

pub moves_total : IsTotalOrder compare
moves_total = then_total (on_total (λ (m : CountedMove). m.total) nat_cmp_total) (on_total code_of nat_list_cmp_total)

pub sooner_told : ((v w : List ℕ) → MatchOrdering (slice_cmp nat_cmp v w) (Less v w) (v ≡ w) (Less w v)) → (m n : CountedMove) → MatchOrdering (compare m n) (IsSooner m n) (code_of m ≡ code_of n) (IsSooner n m)
sooner_told told m n = join (nat_cmp m.total n.total) (slice_cmp nat_cmp (code_of m) (code_of n)) (ranked m.total n.total (nat_cmp m.total n.total) refl) (told (code_of m) (code_of n))
  where
    join : (o r : Ordering) → MatchOrdering o (m.total < n.total) (m.total ≡ n.total) (n.total < m.total) → MatchOrdering r (Less (code_of m) (code_of n)) (code_of m ≡ code_of n) (Less (code_of n) (code_of m))
        → MatchOrdering (ordering_then o r) (IsSooner m n) (code_of m ≡ code_of n) (IsSooner n m)
    join Lower r h k = inl h
    join Greater r h k = inl h
    join Equal Lower h k = inr (h, k)
    join Equal Equal h k = k
    join Equal Greater h k = inr (sym h, k)

-- a comparison that tells lists of one length apart does so whatever stands behind them
fronts : (f g r s : List ℕ) → length f ≡ length g → (slice_cmp nat_cmp f g ≡ Equal → ⊥) → slice_cmp nat_cmp f g ≡ slice_cmp nat_cmp (f ++ r) (g ++ s)
fronts [] [] r s e h = absurd (h refl)
fronts [] (y ∷ g) r s e h = absurd (omega (arith, e))
fronts (x ∷ f) [] r s e h = absurd (omega (arith, e))
fronts (x ∷ f) (y ∷ g) r s e h = go (nat_cmp x y) (λ k. fronts f g r s (omega (arith, e)) k) h
  where
    rest : Type 0
    rest = slice_cmp nat_cmp f g ≡ slice_cmp nat_cmp (f ++ r) (g ++ s)

    go : (o : Ordering) → ((slice_cmp nat_cmp f g ≡ Equal → ⊥) → rest) → (ordering_then o (slice_cmp nat_cmp f g) ≡ Equal → ⊥) → ordering_then o (slice_cmp nat_cmp f g) ≡ ordering_then o (slice_cmp nat_cmp (f ++ r) (g ++ s))
    go Lower on k = refl
    go Greater on k = refl
    go Equal on k = on k

equal_same : (t u : ℕ) (o : Ordering) → MatchOrdering o (t < u) (t ≡ u) (u < t) → t ≡ u → o ≡ Equal
equal_same t u Lower m e = absurd (omega (arith, m, e))
equal_same t u Equal m e = refl
equal_same t u Greater m e = absurd (omega (arith, m, e))

-- by how many there are, and then one by one
abbrev pub flights_compare : List ℕ → List ℕ → Ordering
flights_compare f g = ordering_then (nat_cmp (length f) (length g)) (slice_cmp nat_cmp f g)

-- of moves with one total, flights that differ tell which code is less, whatever the codes have behind
pub flights_tell : (t u : ℕ) (f g r s : List ℕ) → t ≡ u → (flights_compare f g ≡ Equal → ⊥)
    → flights_compare f g ≡ ordering_then (nat_cmp t u) (ordering_then (nat_cmp (length f) (length g)) (slice_cmp nat_cmp (f ++ r) (g ++ s)))
flights_tell t u f g r s e h =
    by_length (nat_cmp (length f) (length g)) (ranked (length f) (length g) (nat_cmp (length f) (length g)) refl) h
    ∙ sym (ap (λ o. ordering_then o (ordering_then (nat_cmp (length f) (length g)) (slice_cmp nat_cmp (f ++ r) (g ++ s)))) (equal_same t u (nat_cmp t u) (ranked t u (nat_cmp t u) refl) e))
  where
    by_length : (o : Ordering) → MatchOrdering o (length f < length g) (length f ≡ length g) (length g < length f) → (ordering_then o (slice_cmp nat_cmp f g) ≡ Equal → ⊥)
        → ordering_then o (slice_cmp nat_cmp f g) ≡ ordering_then o (slice_cmp nat_cmp (f ++ r) (g ++ s))
    by_length Lower m k = refl
    by_length Greater m k = refl
    by_length Equal m k = fronts f g r s m k
