-- Fares that were sorted by their shares are the cheapest first, and those behind one cost no less. Given on to the crates above.
use Rattle.std.proofs.Common.{◌≡◌, ◌⊎◌, ℕ, zero, suc, ◌+◌, ◌<◌, ◌≤◌, false, List, [], ◌∷◌, length, take, get_or, ap, subst, inl, inr, sym, arith}
use Rattle.std.specs.Ordering.{is_lt, nat_cmp}
use Rattle.fare_groups.specs.declared.group.GroupedFare.{GroupedFare}
use Rattle.fare_groups.specs.Grouping.{AreCheapestFirst}
use Rattle.fare_law.specs.Lists.{IsIn}
use Rattle.law_lemmas.proofs.Numbers.{at_most_or, le_itself, le_on}
use Rattle.law_lemmas.proofs.Tests.{less_is, true_false}

-- no share is lower than the one before it
abbrev pub NoneLower : List GroupedFare → Type 0
NoneLower fs = (k : ℕ) (d : GroupedFare) → 0 ≤ k → k + 1 < length fs → is_lt (nat_cmp (get_or fs (k + 1) d).share (get_or fs k d).share) ≡ false

not_lower : (m n : ℕ) → is_lt (nat_cmp n m) ≡ false → m ≤ n
not_lower m n h = elim (at_most_or m n) [ inl le ↦ le | inr lt ↦ absurd (true_false (ap is_lt (less_is n m lt)) h) ]

pub cheapest_first : (fs : List GroupedFare) → NoneLower fs → AreCheapestFirst fs
cheapest_first [] h = tt
cheapest_first (f ∷ []) h = tt
cheapest_first (f ∷ g ∷ fs) h = (not_lower f.share g.share (h 0 f (omega arith) (omega arith)), cheapest_first (g ∷ fs) rest)
  where
    rest : NoneLower (g ∷ fs)
    rest k d l lt =
        let e : suc k + 1 ≡ suc (k + 1) = omega arith in
        subst (λ n. is_lt (nat_cmp (get_or (f ∷ g ∷ fs) n d).share (get_or (g ∷ fs) k d).share) ≡ false) e (h (suc k) d (omega arith) (omega (arith, lt)))

rest_of : (f : GroupedFare) (fs : List GroupedFare) → AreCheapestFirst (f ∷ fs) → AreCheapestFirst fs
rest_of f [] h = tt
rest_of f (g ∷ fs) h = h.1

none_cheaper : (f : GroupedFare) (fs : List GroupedFare) → AreCheapestFirst (f ∷ fs) → (g : GroupedFare) → IsIn g fs → f.share ≤ g.share
none_cheaper f [] h g i = absurd i
none_cheaper f (x ∷ fs) h g (inl e) = subst (λ (y : GroupedFare). f.share ≤ y.share) (sym e) h.0
none_cheaper f (x ∷ fs) h g (inr i) = le_on f.share x.share g.share h.0 (none_cheaper x fs h.1 g i)

-- each fare comes before the one at a place, or costs no less
pub before_or_dearer : (fs : List GroupedFare) (i : ℕ) (d : GroupedFare) → AreCheapestFirst fs → i < length fs → (g : GroupedFare) → IsIn g fs → IsIn g (take i fs) ⊎ ((get_or fs i d).share ≤ g.share)
before_or_dearer [] i d h lt g j = absurd j
before_or_dearer (f ∷ fs) zero d h lt g (inl e) = inr (subst (λ (y : GroupedFare). f.share ≤ y.share) (sym e) (le_itself f.share))
before_or_dearer (f ∷ fs) zero d h lt g (inr j) = inr (none_cheaper f fs h g j)
before_or_dearer (f ∷ fs) (suc i) d h lt g (inl e) = inl (inl e)
before_or_dearer (f ∷ fs) (suc i) d h lt g (inr j) = elim (before_or_dearer fs i d (rest_of f fs h) (omega (arith, lt)) g j) [ inl k ↦ inl (inr k) | inr le ↦ inr le ]
