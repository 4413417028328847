-- Classes of seats that are open on some of a list.
use Rattle.std.proofs.Common.{ℕ, ◌+◌, ◌<◌, List, [], ◌∷◌, length, take, get_or, bit_or, refl, sym, subst, inl, inr}
use Rattle.fare_ends.proofs.BitFacts.{either_set}
use Rattle.fare_law.specs.Lists.{IsIn}
use Rattle.fare_ends.specs.Legs.{AreAmong}
use Rattle.fare_ends.proofs.OpenClasses.{among_each, among_left, among_right}
use Rattle.law_lemmas.proofs.Lists.{front_at}
use Rattle.law_lemmas.proofs.Members.{in_either, in_left, in_one, in_right}

module _ {X : Type 0} (classes_of : X → ℕ) where
  -- the classes of each are among these
  abbrev pub AllAmong : List X → ℕ → Type 0
  AllAmong xs m = (x : X) → IsIn x xs → AreAmong (classes_of x) m

  pub union_next : (xs : List X) (i : ℕ) (d : X) (m : ℕ) → i < length xs → AllAmong (take i xs) m → AllAmong (take (i + 1) xs) (bit_or m (classes_of (get_or xs i d)))
  union_next xs i d m lt h x k = elim (in_either x (take i xs) (get_or xs i d ∷ []) (subst (IsIn x) (front_at xs i d lt) k)) [
    | inl a ↦ among_each (classes_of x) m (bit_or m (classes_of (get_or xs i d))) (h x a) (among_left m (classes_of (get_or xs i d)))
    | inr b ↦ subst (λ y. AreAmong (classes_of y) (bit_or m (classes_of (get_or xs i d)))) (sym (in_one x (get_or xs i d) b)) (among_right m (classes_of (get_or xs i d)))
  ]

  -- and each of these is among whatever has them all
  pub union_least : (xs : List X) (i : ℕ) (d : X) (m : ℕ) → i < length xs → ((more : ℕ) → AllAmong (take i xs) more → AreAmong m more) → (more : ℕ) → AllAmong (take (i + 1) xs) more → AreAmong (bit_or m (classes_of (get_or xs i d))) more
  union_least xs i d m lt h more k class low s =
      let front = front_at xs i d lt in
      elim (either_set m (classes_of (get_or xs i d)) class s) [
        | inl a ↦ h more (λ x j. k x (subst (IsIn x) (sym front) (in_left x (take i xs) (get_or xs i d ∷ []) j))) class low a
        | inr b ↦ k (get_or xs i d) (subst (IsIn (get_or xs i d)) (sym front) (in_right (get_or xs i d) (take i xs) (get_or xs i d ∷ []) (inl refl))) class low b
      ]
