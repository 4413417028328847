-- Lists that are read from the front, each element judged after those before it.
use Rattle.std.specs.Prelude.{◌≡◌, ℕ, suc, List, [], ◌∷◌, ◌++◌, length}

-- this holds of the last, where there is one
abbrev pub IfLast : {X : Type 0} → (X → Type 0) → List X → Type 0
IfLast P [] = Unit {0}
IfLast P (x ∷ []) = P x
IfLast P (x ∷ y ∷ ys) = IfLast P (y ∷ ys)

-- Each element is right after those before it.
abbrev pub AllRight : {X : Type 0} → (List X → X → Type 0) → List X → Type 0
AllRight {X} Right xs = (before : List X) (x : X) (after : List X) → xs ≡ before ++ x ∷ after → Right before x

-- The element at this place, counted from 1, is the first that isn't right after those before it.
pub record FirstWrong {X : Type 0} (Right : List X → X → Type 0) (xs : List X) (place : ℕ) : Type 0 where
  pub before : List X
  pub wrong : X
  pub after : List X
  pub whole : xs ≡ before ++ wrong ∷ after
  pub counted : place ≡ suc (length before)
  pub earlier : AllRight Right before
  pub fails : Right before wrong → ⊥
