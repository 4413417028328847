-- A bucket of moves is cut: the first of what was kept are the first of all.
use Rattle.std.proofs.Common.{◌≡◌, ◌⊎◌, ℕ, ◌≤◌, ◌<◌, List, [], ◌∷◌, length, take, Option, Some, None, refl, sym, subst, inl, inr, arith}
use Rattle.cheap_moves.specs.declared.least.CountedMove.{CountedMove}
use Rattle.cheap_moves.specs.LeastMoves.{AreFirst, AreKept, IsLimit, IsSooner}
use Rattle.cheap_moves.specs.Within.{IsWithin}
use Rattle.cheap_moves.proofs.FirstOnes.{all_have, differ, front_few, front_pairs, least_kept, still_have, still_kept}
use Rattle.cheap_moves.proofs.Joining.{taken_in}
use Rattle.fare_law.specs.Lists.{Each, EachPair, HasMany, IsIn, KLeast, OnLast}
use Rattle.residual_keys.proofs.SortedWords.{same_elements, same_length}
use Rattle.law_lemmas.proofs.EachOne.{each_from, each_in, each_take}
use Rattle.law_lemmas.proofs.Lists.{front_many}
use Rattle.law_lemmas.proofs.Numbers.{at_most_or, le_on}

-- ---- limits

-- a total is within a limit, or beyond it
pub decided : (limit : Option ℕ) (n : ℕ) → IsWithin limit n ⊎ ((l : ℕ) × (limit ≡ Some l) × (l < n))
decided None n = inl tt
decided (Some l) n = elim (at_most_or n l) [ inl le ↦ inl le | inr lt ↦ inr (l, refl, lt) ]

pub lesser_within : (limit : Option ℕ) (m n : ℕ) → m ≤ n → IsWithin limit n → IsWithin limit m
lesser_within None m n le w = tt
lesser_within (Some l) m n le w = le_on m n l le w

-- the limit has only sunk
pub limit_sank : (wanted : ℕ) (first : Option ℕ) (kept : List CountedMove) (limit : Option ℕ) → IsLimit wanted first kept limit → (n : ℕ) → IsWithin limit n → IsWithin first n
limit_sank wanted first kept limit (inl e) n w = subst (λ l. IsWithin l n) e w
limit_sank wanted first kept limit (inr (l, e, f, m)) n w = lesser_within first n l (subst (λ o. IsWithin o n) e w) f

-- the last of moves in order has the greatest total
last_most : (ms : List CountedMove) (limit : Option ℕ) → EachPair IsSooner ms → OnLast (λ m. limit ≡ Some m.total) ms → (last : CountedMove) × IsIn last ms × (limit ≡ Some last.total) × Each (λ m. m.total ≤ last.total) ms
last_most [] limit o h = absurd h
last_most (m ∷ []) limit o h = (m, inl refl, h, (itself m.total, tt))
  where
    itself : (n : ℕ) → n ≤ n
    itself n = omega arith
last_most (m ∷ n ∷ ms) limit o h =
    let t = last_most (n ∷ ms) limit o.1 h in
    (t.0, inr t.1, t.2, (le_on m.total n.total t.0.total (below o.0) t.3.0, t.3))
  where
    below : IsSooner m n → m.total ≤ n.total
    below (inl lt) = omega (arith, lt)
    below (inr k) = omega (arith, k.0)

module _ (trans : (x y z : CountedMove) → IsSooner x y → IsSooner y z → IsSooner x z) (never : (x : CountedMove) → IsSooner x x → ⊥) (Has : CountedMove → Type 0) (wanted : ℕ) (first : Option ℕ) (within : (m : CountedMove) → Has m → IsWithin first m.total) where
  sooner_least : (x y : CountedMove) (n : ℕ) → IsSooner x y → y.total ≤ n → x.total ≤ n
  sooner_least x y n (inl lt) le = omega (arith, lt, le)
  sooner_least x y n (inr k) le = omega (arith, k.0, le)

  module _ (kept : List CountedMove) (limit : Option ℕ) (old : AreKept Has wanted first kept limit) (new : List CountedMove) (are : AreFirst wanted kept new) where
    abbrev sorted : List CountedMove
    sorted = are.sorted

    to : (m : CountedMove) → IsIn m kept → IsIn m sorted
    to m = (same_elements m kept sorted are.same).0

    front_each : Each Has (take wanted sorted)
    front_each = each_take Has wanted sorted (each_from Has sorted (λ m i. each_in Has kept m old.each ((same_elements m kept sorted are.same).1 i)))

    front_rest : (m : CountedMove) → Has m → IsIn m (take wanted sorted) ⊎ HasMany wanted (λ n. IsIn n (take wanted sorted) × IsSooner n m)
    front_rest m h = still_kept IsSooner trans never wanted kept sorted to are.ordered m (old.rest m h)

    -- the first of what was kept are the first of all
    pub first_least : KLeast Has IsSooner wanted new
    first_least = subst (KLeast Has IsSooner wanted) (sym are.front) (least_kept IsSooner trans Has wanted (take wanted sorted) (front_pairs IsSooner trans wanted sorted are.ordered) front_each (front_few wanted sorted) front_rest)

    front_limit : IsLimit wanted first kept limit → IsLimit wanted first (take wanted sorted) limit
    front_limit (inl e) = inl e
    front_limit (inr (n, e, w, many)) = inr (n, e, w, still_have IsSooner trans never (λ m. m.total ≤ n) (λ x y l le. sooner_least x y n l le) wanted kept sorted to are.ordered many)

    last_limit : wanted ≤ length kept → (narrowed : Option ℕ) → OnLast (λ m. narrowed ≡ Some m.total) (take wanted sorted) → IsLimit wanted first (take wanted sorted) narrowed
    last_limit many narrowed h =
        let o = front_pairs IsSooner trans wanted sorted are.ordered in
        let t = last_most (take wanted sorted) narrowed o h in
        let long : length sorted ≡ length kept = same_length kept sorted are.same in
        inr (t.0.total, t.2, within t.0 (each_in Has (take wanted sorted) t.0 front_each t.1), all_have IsSooner trans never (λ m. m.total ≤ t.0.total) wanted (take wanted sorted) o t.3 (front_many wanted sorted (omega (arith, many, long))))

    of_kept : (m : CountedMove) → IsIn m (take wanted sorted) → IsIn m kept
    of_kept m i = (same_elements m kept sorted are.same).1 (taken_in m wanted sorted i)

    -- the first are kept
    pub cut_kept : wanted ≤ length kept → (narrowed : Option ℕ) → (narrowed ≡ limit) ⊎ OnLast (λ m. narrowed ≡ Some m.total) new → AreKept Has wanted first new narrowed
    cut_kept many narrowed last = subst (λ ms. AreKept Has wanted first ms narrowed) (sym are.front) (record {
      once = differ IsSooner trans never (take wanted sorted) (front_pairs IsSooner trans wanted sorted are.ordered);
      one = λ m n i j e. old.one m n (of_kept m i) (of_kept n j) e;
      each = front_each;
      rest = front_rest;
      limit_is = by last;
    })
      where
        by : (narrowed ≡ limit) ⊎ OnLast (λ m. narrowed ≡ Some m.total) new → IsLimit wanted first (take wanted sorted) narrowed
        by (inl e) = subst (IsLimit wanted first (take wanted sorted)) (sym e) (front_limit old.limit_is)
        by (inr h) = last_limit many narrowed (subst (OnLast (λ m. narrowed ≡ Some m.total)) are.front h)
