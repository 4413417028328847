-- What is among the elements of a list in another order, or of what its elements become. Given on to the crates above.
use Rattle.std.proofs.Common.{◌≡◌, ◌≢◌, ℕ, false, eqb, List, [], ◌∷◌, map, All, ap, sym, subst, refl, ◌∙◌, inl, inr}
use Rattle.std.specs.List.{AllByRecursion, IsDistinct}
use Rattle.std.specs.List.Sorted.{IsPermutation}
use Rattle.std.proofs.lemmas.Bool.Decides.{eqb_tells}
use Rattle.std.proofs.lemmas.List.Elements.{All-cons, All-nil, All-head, All-tail}
use Rattle.std.proofs.lemmas.List.Sorted.{All-permutation, IsPermutation-sym}
use Rattle.std.proofs.lemmas.Map.Keys.{IsDistinct-IsPermutation, IsDistinct-cons, IsDistinct-head, IsDistinct-tail}
use Rattle.fare_law.specs.Lists.{AllDifferent, Each, IsIn}
use Rattle.law_lemmas.proofs.Tests.{true_false}

pub all_from : {X : Type 0} (P : X → Type 0) (xs : List X) → ((x : X) → IsIn x xs → P x) → All P xs
all_from P [] h = All-nil P
all_from P (x ∷ xs) h = All-cons P x xs (h x (inl refl)) (all_from P xs (λ y i. h y (inr i)))

pub all_in : {X : Type 0} (P : X → Type 0) (xs : List X) (x : X) → All P xs → IsIn x xs → P x
all_in P [] x h i = absurd i
all_in P (y ∷ ys) x h (inl s) = subst P (sym s) (All-head P y ys h)
all_in P (y ∷ ys) x h (inr i) = all_in P ys x (All-tail P y ys h) i

pub in_reordered : {X : Type 0} (xs ys : List X) (x : X) → IsPermutation xs ys → IsIn x xs → IsIn x ys
in_reordered xs ys x p i = all_in (λ y. IsIn y ys) xs x (All-permutation (λ y. IsIn y ys) ys xs (IsPermutation-sym xs ys p) (all_from (λ y. IsIn y ys) ys (λ y j. j))) i

pub in_mapped : {X Y : Type 0} (f : X → Y) (xs : List X) (x : X) → IsIn x xs → IsIn (f x) (map f xs)
in_mapped f [] x i = absurd i
in_mapped f (y ∷ ys) x (inl e) = inl (ap f e)
in_mapped f (y ∷ ys) x (inr i) = inr (in_mapped f ys x i)

pub of_mapped : {X Y : Type 0} (f : X → Y) (xs : List X) (y : Y) → IsIn y (map f xs) → (x : X) × IsIn x xs × (y ≡ f x)
of_mapped f [] y i = absurd i
of_mapped f (x ∷ xs) y (inl e) = (x, inl refl, e)
of_mapped f (x ∷ xs) y (inr i) = let r = of_mapped f xs y i in (r.0, inr r.1, r.2)

-- ---- numbers that differ do so in another order
flips : (m n : ℕ) → eqb m n ≡ eqb n m
flips m n = elim (eqb_tells m n) [
  | inl y ↦ elim (eqb_tells n m) [ inl z ↦ y.0 ∙ sym z.0 | inr z ↦ absurd (z.1 (sym y.1)) ]
  | inr y ↦ elim (eqb_tells n m) [ inl z ↦ absurd (y.1 (sym z.1)) | inr z ↦ y.0 ∙ sym z.0 ]
]

others_differ : (m : ℕ) (ns : List ℕ) → Each (λ n. m ≢ n) ns → AllByRecursion (λ n. eqb m n ≡ false) ns
others_differ m [] h = _
others_differ m (n ∷ ns) h = (elim (eqb_tells m n) [ inl y ↦ absurd (h.0 y.1) | inr y ↦ y.0 ], others_differ m ns h.1)

differ_others : (m : ℕ) (ns : List ℕ) → AllByRecursion (λ n. eqb m n ≡ false) ns → Each (λ n. m ≢ n) ns
differ_others m [] h = tt
differ_others m (n ∷ ns) h = (λ e. elim (eqb_tells m n) [ inl y ↦ absurd (true_false y.0 h.0) | inr y ↦ absurd (y.1 e) ], differ_others m ns h.1)

distinct : (ns : List ℕ) → AllDifferent ns → IsDistinct eqb ns
unfolding IsDistinct
distinct [] h = tt
distinct (n ∷ ns) h = IsDistinct-cons eqb n ns (others_differ n ns h.0) (distinct ns h.1)

different : (ns : List ℕ) → IsDistinct eqb ns → AllDifferent ns
different [] h = tt
different (n ∷ ns) h = (differ_others n ns (IsDistinct-head eqb n ns h), different ns (IsDistinct-tail eqb n ns h))

pub differ_reordered : (ms ns : List ℕ) → IsPermutation ms ns → AllDifferent ms → AllDifferent ns
differ_reordered ms ns p h = different ns (IsDistinct-IsPermutation eqb flips ms ns p (distinct ms h))
