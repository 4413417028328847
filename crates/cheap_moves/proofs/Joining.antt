-- The moves of some things, one thing after another.
use Rattle.std.proofs.Common.{◌≡◌, ◌≢◌, ◌⊎◌, ℕ, zero, suc, ◌+◌, ◌<◌, List, [], ◌∷◌, ◌++◌, length, map, take, get_or, refl, sym, ap, subst, ◌∙◌, inl, inr, arith}
use Rattle.cheap_moves.specs.Making.{Of}
use Rattle.fare_law.specs.Lists.{AllDifferent, Each, IsIn}
use Rattle.residual_keys.specs.declared.residual.Chosen.{Chosen}
use Rattle.residual_keys.specs.Gathered.{Adds}
use Rattle.residual_keys.proofs.Adding.{adds_like, adds_none, adds_then}
use Rattle.law_lemmas.proofs.Lists.{front_read}
use Rattle.law_lemmas.proofs.Members.{in_either, in_left, in_one, in_right, read_in}

apart_in : {X Y : Type 0} (key : X → Y) (k : Y) (xs : List X) (x : X) → Each (λ l. k ≢ l) (map key xs) → IsIn x xs → k ≢ key x
apart_in key k [] x h i = absurd i
apart_in key k (y ∷ xs) x h (inl e) = λ s. h.0 (s ∙ ap key e)
apart_in key k (y ∷ xs) x h (inr i) = apart_in key k xs x h.1 i

-- where all have different keys, those before one have other keys
pub differs_before : {X Y : Type 0} (key : X → Y) (xs : List X) (i : ℕ) (d x y : X) → AllDifferent (map key xs) → i < length xs → x ≡ get_or xs i d → IsIn y (take i xs) → key y ≡ key x → ⊥
differs_before key [] i d x y h lt e j s = absurd (omega arith)
differs_before key (z ∷ xs) zero d x y h lt e j s = absurd j
differs_before key (z ∷ xs) (suc i) d x y h lt e (inl a) s = apart_in key (key z) xs x h.0 (read_in xs i d x (omega arith) e) (ap key (sym a) ∙ s)
differs_before key (z ∷ xs) (suc i) d x y h lt e (inr j) s = differs_before key xs i d x y h.1 (omega arith) e j s

-- where all have different keys, those of one key are one
pub one_of_key : {X Y : Type 0} (key : X → Y) (xs : List X) → AllDifferent (map key xs) → (x y : X) → IsIn x xs → IsIn y xs → key x ≡ key y → x ≡ y
one_of_key key [] h x y i j e = absurd i
one_of_key key (z ∷ xs) h x y (inl a) (inl b) e = a ∙ sym b
one_of_key key (z ∷ xs) h x y (inl a) (inr j) e = absurd (apart_in key (key z) xs y h.0 j (ap key (sym a) ∙ e))
one_of_key key (z ∷ xs) h x y (inr i) (inl b) e = absurd (apart_in key (key z) xs x h.0 i (ap key (sym b) ∙ sym e))
one_of_key key (z ∷ xs) h x y (inr i) (inr j) e = one_of_key key xs h.1 x y i j e

-- a list is what it is mapped to by what changes nothing
pub same_map : {X : Type 0} (xs : List X) → xs ≡ map (λ x. x) xs
same_map [] = refl
same_map (x ∷ xs) = ap (λ ys. x ∷ ys) (same_map xs)

-- one of the first is one
pub taken_in : {X : Type 0} (x : X) (i : ℕ) (xs : List X) → IsIn x (take i xs) → IsIn x xs
taken_in x zero xs j = absurd j
taken_in x (suc i) [] j = absurd j
taken_in x (suc i) (y ∷ xs) (inl e) = inl e
taken_in x (suc i) (y ∷ xs) (inr j) = inr (taken_in x i xs j)

module _ {X : Type 0} (P : X → Chosen → Type 0) where
  pub of_none : (old : List Chosen) → Adds (Of P []) old old
  of_none old = adds_none (Of P []) old (λ c h. h.1)

  -- one thing more, whose moves are none of those before
  pub of_more : (xs : List X) (i : ℕ) (d x : X) (a m c : List Chosen) → i < length xs → x ≡ get_or xs i d
      → ((y : X) → IsIn y (take i xs) → (u v : Chosen) → P y u → P x v → u.mv ≡ v.mv → ⊥) → Adds (Of P (take i xs)) a m → Adds (P x) m c → Adds (Of P (take (i + 1) xs)) a c
  of_more xs i d x a m c lt e apart h k =
      adds_like (λ z. Of P (take i xs) z ⊎ P x z) (Of P (take (i + 1) xs)) a c
      (adds_then (Of P (take i xs)) (P x) a m c h k (λ u v s t f. apart s.0 s.1 u v s.2 t f)) (λ z. (forth z, back z))
    where
      front : take (i + 1) xs ≡ take i xs ++ x ∷ []
      front = front_read xs i d x lt e

      forth : (z : Chosen) → Of P (take i xs) z ⊎ P x z → Of P (take (i + 1) xs) z
      forth z (inl s) = (s.0, subst (IsIn s.0) (sym front) (in_left s.0 (take i xs) (x ∷ []) s.1), s.2)
      forth z (inr p) = (x, subst (IsIn x) (sym front) (in_right x (take i xs) (x ∷ []) (inl refl)), p)

      back : (z : Chosen) → Of P (take (i + 1) xs) z → Of P (take i xs) z ⊎ P x z
      back z s = elim (in_either s.0 (take i xs) (x ∷ []) (subst (IsIn s.0) front s.1)) [
        | inl l ↦ inl (s.0, l, s.2)
        | inr l ↦ inr (subst (λ y. P y z) (in_one s.0 x l) s.2)
      ]

-- one of the first and one more is one of the first, or that one
pub one_added : {X : Type 0} (xs : List X) (i : ℕ) (d x y : X) → i < length xs → x ≡ get_or xs i d → IsIn y (take (i + 1) xs) → IsIn y (take i xs) ⊎ (y ≡ x)
one_added xs i d x y lt e j = elim (in_either y (take i xs) (x ∷ []) (subst (IsIn y) (front_read xs i d x lt e) j)) [ inl k ↦ inl k | inr k ↦ inr (in_one y x k) ]

-- what is none of the first and isn't one more is none of these
pub not_added : {X : Type 0} (xs : List X) (i : ℕ) (d y : X) → i < length xs → (IsIn y (take i xs) → ⊥) → (y ≡ get_or xs i d → ⊥) → IsIn y (take (i + 1) xs) → ⊥
not_added xs i d y lt none ne j = elim (one_added xs i d (get_or xs i d) y lt refl j) [ inl k ↦ none k | inr k ↦ ne k ]
