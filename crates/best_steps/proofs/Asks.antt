-- What an answer on a node's step says of the others.
use Rattle.std.proofs.Common.{length, ◌≤◌, slice_get, ◌≡◌, ℕ, zero, suc, ◌<◌, ◌+◌, ◌⊎◌, List, [], ◌∷◌, Option, Some, None, sym, refl, ap, subst, inl, inr, arith, ◌∙◌}
use Rattle.std.proofs.lemmas.Bool.{cases_order}
use Rattle.fare_law.specs.Lists.{IsIn, Each, EachPair, KLeast}
use Rattle.best_steps.specs.declared.steps.Step.{Step}
use Rattle.best_steps.specs.Runs.{Sooner, IsAt, Same}
use Rattle.best_k.specs.declared.lattice.Derivation.{Derivation}
use Rattle.best_k.proofs.Orders.{under_never, under_trans}
use Rattle.law_lemmas.proofs.EachOne.{each_in}
use Rattle.law_lemmas.proofs.Words.{less_total}

-- the order of steps is that of their totals and words
key : Step → Derivation
key s = record { price = s.total; word = s.word }

pub sooner_trans : (s t u : Step) → Sooner s t → Sooner t u → Sooner s u
unfolding key
sooner_trans s t u h k = under_trans (key s) (key t) (key u) h k

pub sooner_never : (s : Step) → Sooner s s → ⊥
unfolding key
sooner_never s h = under_never (key s) h

-- steps of one node with the same word are the same
abbrev pub Told : (Step → Type 0) → Type 0
Told Has = (s t : Step) → Has s → Has t → s.word ≡ t.word → s ≡ t

sooner_total : (Has : Step → Type 0) → Told Has → (s t : Step) → Has s → Has t → Sooner s t ⊎ ((s ≡ t) ⊎ Sooner t s)
sooner_total Has told s t a b =
    elim (cases_order s.total t.total) [
      | inr o ↦ elim o [ inl h ↦ inl (inl h) | inr h ↦ inr (inr (inl h)) ]
      | inl p ↦ elim (less_total s.word t.word) [
        | inl h ↦ inl (inr (p, h))
        | inr o ↦ elim o [
          | inl e ↦ inr (inl (told s t a b e))
          | inr h ↦ inr (inr (inr (sym p, h)))
        ]
      ]
    ]

each_map : {X : Type 0} (P Q : X → Type 0) (f : (x : X) → P x → Q x) (xs : List X) → Each P xs → Each Q xs
each_map P Q f [] h = tt
each_map P Q f (x ∷ xs) h = (f x h.0, each_map P Q f xs h.1)

rising : (x : Step) (xs : List Step) → EachPair Sooner (x ∷ xs) → Each (Sooner x) xs
rising x [] h = tt
rising x (y ∷ xs) h = (h.0, each_map (Sooner y) (Sooner x) (λ z k. sooner_trans x y z h.0 k) xs (rising y xs h.1))

rising_rest : (x : Step) (xs : List Step) → EachPair Sooner (x ∷ xs) → EachPair Sooner xs
rising_rest x [] h = tt
rising_rest x (y ∷ xs) h = h.1

-- whether a step is among these
among : (Has : Step → Type 0) → Told Has → (x : Step) → Has x → (xs : List Step) → Each Has xs → IsIn x xs ⊎ (IsIn x xs → ⊥)
among Has told x h [] k = inr (λ i. i)
among Has told x h (y ∷ ys) k = elim (among Has told x h ys k.1) [
  | inl i ↦ inl (inr i)
  | inr n ↦ elim (sooner_total Has told x y h k.0) [
    | inl s ↦ inr (λ o. elim o [ inl e ↦ sooner_never y (subst (λ z. Sooner z y) e s) | inr i ↦ n i ])
    | inr o ↦ elim o [
      | inl e ↦ inl (inl e)
      | inr s ↦ inr (λ o. elim o [ inl e ↦ sooner_never y (subst (λ z. Sooner y z) e s) | inr i ↦ n i ])
    ]
  ]
]

-- the first of the least is the least
least_first : (Has : Step → Type 0) → Told Has → (k : ℕ) (x : Step) (xs : List Step) → KLeast Has Sooner k (x ∷ xs)
    → (u : Step) → Has u → (u ≡ x) ⊎ Sooner x u
least_first Has told k x xs l u h = elim (among Has told u h (x ∷ xs) l.each) [
  | inr n ↦ inr (l.rest u h n).0.0
  | inl i ↦ elim i [
    | inl e ↦ inl e
    | inr j ↦ inr (each_in (Sooner x) xs u (rising x xs l.ascending) j)
  ]
]

-- the steps after this one
abbrev After : (Step → Type 0) → Step → Step → Type 0
After Has x u = Has u × Sooner x u

after_told : (Has : Step → Type 0) → Told Has → (x : Step) → Told (After Has x)
after_told Has told x s t a b e = told s t a.0 b.0 e

-- the others are the least of those after it
least_rest : (Has : Step → Type 0) → (k : ℕ) (x : Step) (xs : List Step) → KLeast Has Sooner (suc k) (x ∷ xs)
    → KLeast (After Has x) Sooner k xs
least_rest Has k x xs l = record {
  ascending = rising_rest x xs l.ascending;
  each = both xs l.each.1 (rising x xs l.ascending);
  few = let f = l.few in omega arith;
  rest = λ u h n. let r = l.rest u h.0 (λ o. elim o [ inl e ↦ sooner_never x (subst (λ z. Sooner x z) e h.1) | inr i ↦ n i ]) in (r.0.1, omega (arith, r.1));
}
  where
    both : (ys : List Step) → Each Has ys → Each (Sooner x) ys → Each (After Has x) ys
    both [] a b = tt
    both (y ∷ ys) a b = ((a.0, b.0), both ys a.1 b.1)

-- where none are listed of some, there are none
least_none : (Has : Step → Type 0) (k : ℕ) → KLeast Has Sooner (suc k) [] → (u : Step) → Has u → ⊥
least_none Has k l u h = let r = l.rest u h (λ i. i) in absurd (omega (arith, r.1))

-- What a next step is to the one before it.
abbrev pub IsNextOf : (Step → Type 0) → Step → Option Step → Type 0
IsNextOf Has s None = (u : Step) → Has u → Sooner s u → ⊥
IsNextOf Has s (Some t) = Has t × Sooner s t × ((u : Step) → Has u → Sooner s u → (u ≡ t) ⊎ Sooner t u)

abbrev pub IsFirstOf : (Step → Type 0) → Option Step → Type 0
IsFirstOf Has None = (u : Step) → Has u → ⊥
IsFirstOf Has (Some t) = Has t × ((u : Step) → Has u → (u ≡ t) ⊎ Sooner t u)

first_listed : (Has : Step → Type 0) → Told Has → (k : ℕ) (xs : List Step) → KLeast Has Sooner (suc k) xs → IsFirstOf Has (slice_get xs 0)
first_listed Has told k [] l = least_none Has k l
first_listed Has told k (x ∷ xs) l = (l.each.0, least_first Has told (suc k) x xs l)

next_after : (Has : Step → Type 0) (s : Step) (o : Option Step) → IsFirstOf (After Has s) o → IsNextOf Has s o
next_after Has s None f = λ u h k. f u (h, k)
next_after Has s (Some t) f = (f.0.0, f.0.1, λ u h k. f.1 u (h, k))

-- a next step of those after x is a next step of all
next_wider : (Has : Step → Type 0) (x s : Step) → Sooner x s → (o : Option Step) → IsNextOf (After Has x) s o → IsNextOf Has s o
next_wider Has x s a None f = λ u h k. f u (h, sooner_trans x s u a k) k
next_wider Has x s a (Some t) f = (f.0.0, f.1, λ u h k. f.2 u (h, sooner_trans x s u a k) k)

same_first : (Has : Step → Type 0) → Told Has → (k n : ℕ) (x y : Step) (xs ys : List Step) → KLeast Has Sooner k (x ∷ xs)
    → KLeast Has Sooner n (y ∷ ys) → x ≡ y
same_first Has told k n x y xs ys l m = elim (least_first Has told k x xs l y m.each.0) [
  | inl e ↦ sym e
  | inr s ↦ elim (least_first Has told n y ys m x l.each.0) [ inl e ↦ e | inr t ↦ absurd (sooner_never x (sooner_trans x y x s t)) ]
]

placed_in : (xs : List Step) (i : ℕ) (s : Step) → Some s ≡ slice_get xs i → IsIn s xs
placed_in [] i s e = absurd (cc)
placed_in (x ∷ xs) zero s e = inl (cc)
placed_in (x ∷ xs) (suc i) s e = inr (placed_in xs i s e)

next_listed : (i : ℕ) (Has : Step → Type 0) → Told Has → (k n : ℕ) (xs ys : List Step) (s : Step) → KLeast Has Sooner k xs
    → KLeast Has Sooner n ys → i < k → suc i < n → Some s ≡ slice_get xs i → IsNextOf Has s (slice_get ys (suc i))
next_listed i Has told k n [] ys s l m a b e = absurd (cc)
next_listed i Has told zero n (x ∷ xs) ys s l m a b e = absurd (omega arith)
next_listed i Has told (suc k) zero (x ∷ xs) ys s l m a b e = absurd (omega arith)
next_listed i Has told (suc k) (suc n) (x ∷ xs) [] s l m a b e = absurd (least_none Has n m x l.each.0)
next_listed zero Has told (suc k) (suc zero) (x ∷ xs) (y ∷ ys) s l m a b e = absurd (omega arith)
next_listed zero Has told (suc k) (suc (suc n)) (x ∷ xs) (y ∷ ys) s l m a b e =
    let q : s ≡ y = (let p : s ≡ x = cc in p ∙ same_first Has told (suc k) (suc (suc n)) x y xs ys l m) in
    subst (λ z. IsNextOf Has z (slice_get ys 0)) (sym q) (next_after Has y (slice_get ys 0) (first_listed (After Has y) (after_told Has told y) n ys (least_rest Has (suc n) y ys m)))
next_listed (suc i) Has told (suc k) (suc n) (x ∷ xs) (y ∷ ys) s l m a b e =
    let q = same_first Has told (suc k) (suc n) x y xs ys l m in
    let r = subst (λ z. KLeast (After Has z) Sooner n ys) (sym q) (least_rest Has n y ys m) in
    let late = each_in (Sooner x) xs s (rising x xs l.ascending) (placed_in xs i s e) in
    next_wider Has x s late (slice_get ys (suc i))
    (next_listed i (After Has x) (after_told Has told x) k n xs ys s (least_rest Has k x xs l) r (omega arith) (omega arith) e)

pub first_asked : (Has : Step → Type 0) → Told Has → (o : Option Step) → IsAt Has 0 o → IsFirstOf Has o
first_asked Has told o a = subst (λ z. IsFirstOf Has z) (sym a.found_there) (listed a.wanted a.list a.more a.least)
  where
    listed : (k : ℕ) (xs : List Step) → 0 < k → KLeast Has Sooner k xs → IsFirstOf Has (slice_get xs 0)
    listed zero xs h l = absurd (omega arith)
    listed (suc k) xs h l = first_listed Has told k xs l

pub next_asked : (Has : Step → Type 0) → Told Has → (i : ℕ) (s : Step) (o : Option Step) → IsAt Has i (Some s) → IsAt Has (i + 1) o → IsNextOf Has s o
next_asked Has told i s o a b =
    let j : i + 1 ≡ suc i = omega arith in
    let f : o ≡ slice_get b.list (suc i) = b.found_there ∙ ap (λ z. slice_get b.list z) j in
    subst (λ z. IsNextOf Has s z) (sym f) (next_listed i Has told a.wanted b.wanted a.list b.list s a.least b.least a.more (omega (arith, b.more)) a.found_there)

-- the step at a place is a step of the node
pub asked_has : (Has : Step → Type 0) (i : ℕ) (s : Step) → IsAt Has i (Some s) → Has s
asked_has Has i s a = each_in Has a.list s a.least.each (placed_in a.list i s a.found_there)

pub least_same : (Has Has' : Step → Type 0) → ((s : Step) → (Has s → Has' s) × (Has' s → Has s)) → (k : ℕ) (xs : List Step)
    → KLeast Has' Sooner k xs → KLeast Has Sooner k xs
least_same Has Has' f k xs l = record {
  ascending = l.ascending;
  each = each_map Has' Has (λ x h. (f x).1 h) xs l.each;
  few = l.few;
  rest = λ u h n. l.rest u ((f u).0 h) n;
}

-- the same steps give the same answers
pub asked_same : (Has Has' : Step → Type 0) → ((s : Step) → (Has s → Has' s) × (Has' s → Has s)) → (i : ℕ) (o : Option Step)
    → IsAt Has' i o → IsAt Has i o
asked_same Has Has' f i o a = record { wanted = a.wanted; list = a.list; more = a.more; found_there = a.found_there; least = least_same Has Has' f a.wanted a.list a.least }

pub same_more : (A B C : ℕ → Step → Type 0) → Same A B → Same B C → Same A C
same_more A B C f g n s = ((λ h. (g n s).0 ((f n s).0 h)), (λ h. (f n s).1 ((g n s).1 h)))

-- where fewer steps are listed than were asked for, these are all
least_wider : (Has : Step → Type 0) (k n : ℕ) (xs : List Step) → length xs < k → k ≤ n → KLeast Has Sooner k xs → KLeast Has Sooner n xs
least_wider Has k n xs short le l = record {
  ascending = l.ascending;
  each = l.each;
  few = omega arith;
  rest = λ u h out. let r = l.rest u h out in absurd (omega (arith, r.1));
}

-- a list of a node's least steps has the step at a place, where it is long enough or has all
pub listed_at : (Has : Step → Type 0) (k i : ℕ) (xs : List Step) → KLeast Has Sooner k xs → (i < k) ⊎ (length xs < k) → IsAt Has i (slice_get xs i)
listed_at Has k i xs l (inl lt) = record { wanted = k; list = xs; more = lt; least = l; found_there = refl }
listed_at Has k i xs l (inr short) = record { wanted = k + i + 1; list = xs; more = omega arith; least = least_wider Has k (k + i + 1) xs short (omega arith) l; found_there = refl }
