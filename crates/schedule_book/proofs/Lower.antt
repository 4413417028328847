-- How many flights depart before an instant.
use Rattle.std.proofs.Common.{◌≡◌, ℕ, ℤ, zero, suc, ◌-◌, sym, subst, ◌∙◌, ◌≤◌, ◌<◌, ◌≤ℤ◌, ◌<ℤ◌, Bool, true, false, cond, int_lt, List, [], ◌∷◌, length, get_or, count_by, ap, inl, inr, arith}
use Rattle.std.proofs.lemmas.Int.{ints}
use Rattle.std.proofs.lemmas.List.Sums.{sum_by-cons}
use Rattle.fare_law.specs.declared.flights.Flight.{Flight}
use Rattle.fare_law.specs.Flights.{Earlier}
use Rattle.fare_law.specs.Lists.{EachPair}
use Rattle.std.specs.List.Sorted.{IsPartitionPoint}
use Rattle.law_lemmas.proofs.Lists.{got_read}
use Rattle.law_lemmas.proofs.Options.{some_same}
use Rattle.law_lemmas.proofs.Tests.{int_lt_is, lt_int_lt, not_true, true_false}

pub before_le : (f g : Flight) → Earlier f g → f.dep ≤ℤ g.dep
before_le f g (inl h) = omega (arith, ints)
before_le f g (inr h) = omega (arith, ints, h.0)

-- flights in order depart no earlier than those before them
pub dep_le : (fs : List Flight) → EachPair Earlier fs → (i j : ℕ) (d : Flight) → i ≤ j → j < length fs → (get_or fs i d).dep ≤ℤ (get_or fs j d).dep
dep_le [] h i j d le lt = absurd (omega arith)
dep_le (f ∷ fs) h zero zero d le lt = omega (arith, ints)
dep_le (f ∷ []) h zero (suc j) d le lt = absurd (omega arith)
dep_le (f ∷ g ∷ fs) h zero (suc j) d le lt = join (before_le f g h.0) (dep_le (g ∷ fs) h.1 0 j d (omega arith) (omega arith))
  where
    join : f.dep ≤ℤ g.dep → g.dep ≤ℤ (get_or (g ∷ fs) j d).dep → f.dep ≤ℤ (get_or (g ∷ fs) j d).dep
    join a b = omega (arith, ints)
dep_le (f ∷ fs) h (suc i) zero d le lt = absurd (omega arith)
dep_le (f ∷ []) h (suc i) (suc j) d le lt = absurd (omega arith)
dep_le (f ∷ g ∷ fs) h (suc i) (suc j) d le lt = dep_le (g ∷ fs) h.1 i j d (omega arith) (omega arith)

pub parted : (fs : List Flight) (at : ℤ) → EachPair Earlier fs → (i j : ℕ) (d : Flight) → i ≤ j → j < length fs → int_lt (get_or fs j d).dep at ≡ true → int_lt (get_or fs i d).dep at ≡ true
parted fs at h i j d le lt t = lt_int_lt (get_or fs i d).dep at (join (dep_le fs h i j d le lt) (int_lt_is (get_or fs j d).dep at t))
  where
    join : (get_or fs i d).dep ≤ℤ (get_or fs j d).dep → (get_or fs j d).dep <ℤ at → (get_or fs i d).dep <ℤ at
    join a b = omega (arith, ints)

-- as many pass as stand before the place from which none does
pub count_point : (p : Flight → Bool) (fs : List Flight) (r : ℕ) → r ≤ length fs → ((k : ℕ) (d : Flight) → 0 ≤ k → k < r → p (get_or fs k d) ≡ true) → ((k : ℕ) (d : Flight) → r ≤ k → k < length fs → p (get_or fs k d) ≡ false) → r ≡ count_by p fs
count_point p [] r le h g = omega arith
count_point p (f ∷ fs) zero le h g =
    let t = count_point p fs 0 (omega arith) (λ k d z lt. absurd (omega arith)) (λ k d z lt. g (suc k) d (omega arith) (omega arith)) in
    let e : ◌≡◌ {A = ℕ} (cond (p f) 1 0) 0 = ap (λ b. cond b 1 0) (g 0 f (omega arith) (omega arith)) in
    omega (arith, t, e, sum_by-cons (λ (x : Flight). cond (p x) 1 0) f fs)
count_point p (f ∷ fs) (suc r) le h g =
    let t = count_point p fs r (omega arith) (λ k d z lt. h (suc k) d (omega arith) (omega arith)) (λ k d z lt. g (suc k) d (omega arith) (omega arith)) in
    let e : ◌≡◌ {A = ℕ} (cond (p f) 1 0) 1 = ap (λ b. cond b 1 0) (h 0 f (omega arith) (omega arith)) in
    omega (arith, t, e, sum_by-cons (λ (x : Flight). cond (p x) 1 0) f fs)

-- where an instant's neighbours tell, all before it depart earlier, and none from there on
pub instant_between : (fs : List Flight) (at : ℤ) (r : ℕ) (d : Flight) → EachPair Earlier fs → 0 < r → r < length fs → int_lt (get_or fs (r - 1) d).dep at ≡ true → int_lt (get_or fs r d).dep at ≡ false → IsPartitionPoint (λ (f : Flight). int_lt f.dep at ≡ true) (λ (f : Flight). int_lt f.dep at ≡ false) fs r
instant_between fs at r d h some lt low high = (
  λ k e z l. parted fs at h k (r - 1) e (omega (arith, some, l)) (omega (arith, some, lt)) (subst (λ (f : Flight). int_lt f.dep at ≡ true) (one_read fs (r - 1) d e (omega (arith, some, lt))) low),
  λ k e le l. not_true (int_lt (get_or fs k e).dep at) (λ t. true_false (parted fs at h r k e le l t) (subst (λ (f : Flight). int_lt f.dep at ≡ false) (one_read fs r d e lt) high)),
)
  where
    one_read : (xs : List Flight) (k : ℕ) (d e : Flight) → k < length xs → get_or xs k d ≡ get_or xs k e
    one_read xs k d e lt = some_same (get_or xs k d) (get_or xs k e) (sym (got_read xs k d lt) ∙ got_read xs k e lt)
