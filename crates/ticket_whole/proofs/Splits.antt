-- Lists that are split at an element, and lists that match.
use Rattle.std.proofs.Common.{◌≡◌, List, [], ◌∷◌, ◌++◌, Option, Some, None, IfSome, refl, ap, subst, inl, inr}
use Rattle.std.specs.List.{filter_map, cons_option}
use Rattle.fare_law.specs.Lists.{Each, IsIn, Matched}

pub each_split : {A : Type 0} (P : A → Type 0) (xs : List A) → ((before : List A) (x : A) (after : List A) → xs ≡ before ++ x ∷ after → P x) → Each P xs
each_split P [] h = tt
each_split P (x ∷ xs) h = (h [] x xs refl, each_split P xs (λ before y after e. h (x ∷ before) y after (ap (λ ys. x ∷ ys) e)))

-- what an element of a list is matched with
pub record Mate {X Y : Type 0} (R : X → Y → Type 0) (x : X) (ys : List Y) : Type 0 where
  pub mate : Y
  pub is : R x mate
  pub among : IsIn mate ys

mate_between : {X Y : Type 0} (R : X → Y → Type 0) (before : List X) (x : X) (after : List X) (ys : List Y) → Matched R (before ++ x ∷ after) ys → Mate R x ys
mate_between R [] x after [] m = absurd m
mate_between R [] x after (y ∷ ys) m = record { mate = y; is = m.0; among = inl refl }
mate_between R (w ∷ before) x after [] m = absurd m
mate_between R (w ∷ before) x after (y ∷ ys) m = let r = mate_between R before x after ys m.1 in record { mate = r.mate; is = r.is; among = inr r.among }

pub mate_of : {X Y : Type 0} (R : X → Y → Type 0) (xs : List X) (ys : List Y) → Matched R xs ys → (before : List X) (x : X) (after : List X) → xs ≡ before ++ x ∷ after → Mate R x ys
mate_of R xs ys m before x after e = mate_between R before x after ys (subst (λ zs. Matched R zs ys) e m)

each_cons : {Y : Type 0} (P : Y → Type 0) (o : Option Y) (ys : List Y) → IfSome o P → Each P ys → Each P (cons_option o ys)
each_cons P None ys h k = k
each_cons P (Some y) ys h k = (h, k)

pub each_gathered : {X Y : Type 0} (f : X → Option Y) (P : Y → Type 0) (xs : List X) → Each (λ x. IfSome (f x) P) xs → Each P (filter_map f xs)
each_gathered f P [] h = tt
each_gathered f P (x ∷ xs) h = each_cons P (f x) (filter_map f xs) h.0 (each_gathered f P xs h.1)

pub if_some_all : {X D : Type 0} (P : D → X → Type 0) (o : Option X) → ((d : D) → IfSome o (P d)) → IfSome o (λ x. (d : D) → P d x)
if_some_all P None h = tt
if_some_all P (Some x) h = h
