-- Numbers of elements that stand once each.
use Rattle.std.proofs.Common.{◌≡◌, ◌≢◌, ◌↔◌, ◌∙◌, ℕ, zero, suc, Bool, true, false, if◌then◌else◌, IsTrue, List, [], ◌∷◌, ◌++◌, slice_get, Some, refl, sym, ap, subst, inl, inr}
use Rattle.std.specs.List.{list_any}
use Rattle.fare_law.specs.Lists.{AllDifferent, Each}
use Rattle.residual_table.specs.Keys.{IsAdded, KeepsNumbers}
use Rattle.law_lemmas.proofs.EachOne.{each_got, each_more}
use Rattle.law_lemmas.proofs.Tests.{neither}

keeps_last : {X : Type 0} (xs : List X) (x : X) → KeepsNumbers xs (xs ++ x ∷ [])
keeps_last [] x n y e = absurd (cc)
keeps_last (z ∷ xs) x zero y e = e
keeps_last (z ∷ xs) x (suc n) y e = keeps_last xs x n y e

-- an element is added
pub keeps_added : {X : Type 0} (eq : X → X → Bool) (xs ys : List X) (x : X) → IsAdded eq xs x ys → KeepsNumbers xs ys
keeps_added eq xs ys x (inr e) n y h = ap (λ z. slice_get z n) e ∙ h
keeps_added eq xs ys x (inl e) n y h = ap (λ z. slice_get z n) e ∙ go (list_any (eq x) xs)
  where
    go : (b : Bool) → slice_get (if b then xs else xs ++ x ∷ []) n ≡ Some y
    go true = h
    go false = keeps_last xs x n y h

pub each_added : {X : Type 0} (eq : X → X → Bool) (P : X → Type 0) (xs ys : List X) (x : X) → IsAdded eq xs x ys → Each P xs → P x → Each P ys
each_added eq P xs ys x (inr e) h p = subst (Each P) (sym e) h
each_added eq P xs ys x (inl e) h p = subst (Each P) (sym e) (go (list_any (eq x) xs))
  where
    go : (b : Bool) → Each P (if b then xs else xs ++ x ∷ [])
    go true = h
    go false = each_more P xs x h p

-- an equality test that tells whether these are one
abbrev pub TellsFor : {X : Type 0} → (X → Type 0) → (X → X → Bool) → Type 0
TellsFor {X} P eq = (a b : X) → P a → P b → IsTrue (eq a b) ↔ (a ≡ b)

module _ {X : Type 0} (P : X → Type 0) (eq : X → X → Bool) (tells : TellsFor P eq) where
  not_there : (xs : List X) (x : X) → Each P xs → P x → list_any (eq x) xs ≡ false → Each (λ y. y ≢ x) xs
  not_there [] x h p e = tt
  not_there (y ∷ xs) x h p e =
      let f = neither (eq x y) (list_any (eq x) xs) e in
      (λ same. let t : eq x y ≡ true = (tells x y p h.0).1 (sym same) in absurd (cc), not_there xs x h.1 p f.1)

  once_last : (xs : List X) (x : X) → AllDifferent xs → Each (λ y. y ≢ x) xs → AllDifferent (xs ++ x ∷ [])
  once_last [] x h n = (tt, tt)
  once_last (y ∷ xs) x h n = (each_more (λ z. y ≢ z) xs x h.0 n.0, once_last xs x h.1 n.1)

  pub once_added : (xs ys : List X) (x : X) → IsAdded eq xs x ys → AllDifferent xs → Each P xs → P x → AllDifferent ys
  once_added xs ys x (inr e) h all p = subst AllDifferent (sym e) h
  once_added xs ys x (inl e) h all p = subst AllDifferent (sym e) (go (list_any (eq x) xs) refl)
    where
      go : (b : Bool) → list_any (eq x) xs ≡ b → AllDifferent (if b then xs else xs ++ x ∷ [])
      go true e = h
      go false e = once_last xs x h (not_there xs x all p e)

  -- the element that the test finds is the one that was added
  pub found_is : (xs : List X) (n : ℕ) (x : X) → Each P xs → P x → (y : X) × (slice_get xs n ≡ Some y) × (eq x y ≡ true) → slice_get xs n ≡ Some x
  found_is xs n x all p (y, e, t) = e ∙ ap Some (sym ((tells x y p (each_got P xs n y all e)).0 t))

pub each_any : {X : Type 0} (xs : List X) → Each (λ (x : X). Unit {0}) xs
each_any [] = tt
each_any (x ∷ xs) = (tt, each_any xs)
