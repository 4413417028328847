-- What holds of each two elements at different places.
use Rattle.std.proofs.Common.{◌≡◌, zero, suc, List, [], ◌∷◌, map, sym, refl, ap, subst, inl, inr, arith}
use Rattle.fare_law.specs.Lists.{IsIn}
use Rattle.best_k.proofs.Places.{nth_in, in_nth}
use Rattle.best_k.proofs.Reordered.{Moves}
use Rattle.best_steps.specs.Waiting.{Pairwise}

-- the same elements in another order
pub pairwise_moved : {X : Type 0} (R : X → X → Type 0) (xs ys : List X) → Moves xs ys → Pairwise R xs → Pairwise R ys
pairwise_moved R xs ys m d i j a b h k ne = let w = m.were i j a b h k in d w.one w.other a b w.here w.there (λ e. ne (w.apart e))

-- one more element in front
pub pairwise_more : {X : Type 0} (R : X → X → Type 0) (x : X) (xs : List X) → ((y : X) → IsIn y xs → R x y)
    → ((y : X) → IsIn y xs → R y x) → Pairwise R xs → Pairwise R (x ∷ xs)
pairwise_more R x xs f g d zero zero a b h k ne = absurd (ne refl)
pairwise_more R x xs f g d zero (suc j) a b h k ne = subst (λ z. R z b) (sym h) (f b (nth_in xs j b k))
pairwise_more R x xs f g d (suc i) zero a b h k ne = subst (λ z. R a z) (sym k) (g a (nth_in xs i a h))
pairwise_more R x xs f g d (suc i) (suc j) a b h k ne = d i j a b h k (λ e. ne (ap suc e))

pub pairwise_rest : {X : Type 0} (R : X → X → Type 0) (x : X) (xs : List X) → Pairwise R (x ∷ xs) → Pairwise R xs
pairwise_rest R x xs d i j a b h k ne = d (suc i) (suc j) a b h k (λ e. ne (omega arith))

pub pairwise_first : {X : Type 0} (R : X → X → Type 0) (x : X) (xs : List X) → Pairwise R (x ∷ xs) → (y : X) → IsIn y xs → R x y
pairwise_first R x xs d y i = let k = in_nth xs y i in d zero (suc k.0) x y refl k.1 (λ e. omega arith)

pub in_map : {X Y : Type 0} (f : X → Y) (xs : List X) (y : Y) → IsIn y (map f xs) → (x : X) × (IsIn x xs × (y ≡ f x))
in_map f [] y h = absurd h
in_map f (x ∷ xs) y (inl e) = (x, (inl refl, e))
in_map f (x ∷ xs) y (inr h) = let r = in_map f xs y h in (r.0, (inr r.1.0, r.1.1))
