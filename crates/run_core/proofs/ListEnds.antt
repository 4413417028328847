-- Lists with one more at the end, and options that come of options.
use Rattle.std.proofs.Common.{◌≡◌, ◌⊎◌, ⊎_elim, ◌∙◌, ◌<◌, ℕ, List, [], ◌∷◌, ◌++◌, Option, Some, None, option_map, ap, sym, subst, refl, inl, inr, get_or, replicate, zero, suc, length, unwrap_or, Any, arith}
use Rattle.fare_law.specs.Lists.{IsIn}

pub in_more : {X : Type 0} (a : X) (xs : List X) (x : X) → IsIn a xs → IsIn a (xs ++ x ∷ [])
in_more a [] x i = absurd i
in_more a (y ∷ xs) x (inl e) = inl e
in_more a (y ∷ xs) x (inr i) = inr (in_more a xs x i)

pub in_end : {X : Type 0} (xs : List X) (x : X) → IsIn x (xs ++ x ∷ [])
in_end [] x = inl refl
in_end (y ∷ xs) x = inr (in_end xs x)

pub in_either : {X : Type 0} (a : X) (xs : List X) (x : X) → IsIn a (xs ++ x ∷ []) → IsIn a xs ⊎ (a ≡ x)
in_either a [] x (inl e) = inr e
in_either a [] x (inr i) = absurd i
in_either a (y ∷ xs) x (inl e) = inl (inl e)
in_either a (y ∷ xs) x (inr i) = ⊎_elim (λ there. inl (inr there)) (λ e. inr e) (in_either a xs x i)

-- one of the elements is this
in_at : {X : Type 0} (a : X) (xs : List X) (k : ℕ) (x : X) → k < length xs → get_or xs k x ≡ x → x ≡ a → IsIn a xs
in_at a [] k x less is same = absurd (omega (arith, less))
in_at a (y ∷ xs) zero x less is same = inl (sym (is ∙ same))
in_at a (y ∷ xs) (suc k) x less is same = inr (in_at a xs k x (omega (arith, less)) is same)

pub in_of_any : {X : Type 0} (a : X) (xs : List X) → Any (λ (x : X). x ≡ a) xs → IsIn a xs
in_of_any a xs h = in_at a xs h.0 h.1 h.2 h.3 h.4

pub any_of_in : {X : Type 0} (a : X) (xs : List X) → IsIn a xs → Any (λ (x : X). x ≡ a) xs
any_of_in a [] i = absurd i
any_of_in a (y ∷ xs) (inl e) = (0, y, omega arith, refl, sym e)
any_of_in a (y ∷ xs) (inr i) = let r = any_of_in a xs i in (suc r.0, r.1, omega (arith, r.2), r.3, r.4)

pub some_same : {X : Type 0} {x y : X} → Some x ≡ Some y → x ≡ y
some_same {X} {x} {y} e = ap (λ (o : Option X). unwrap_or o x) e

-- what a mapped option comes of
pub record CameOf {X Y : Type 0} (f : X → Y) (m : Option X) (y : Y) : Type 0 where
  pub from : X
  pub is : m ≡ Some from
  pub gives : f from ≡ y

pub came_of : {X Y : Type 0} (f : X → Y) (m : Option X) (y : Y) → option_map f m ≡ Some y → CameOf f m y
came_of f None y e = absurd (cc e)
came_of f (Some x) y e = record { from = x; is = refl; gives = some_same e }

-- no desk of a new world has looked
pub nothing_there : {X : Type 0} (count d : ℕ) (x : X) → get_or (replicate count None) d None ≡ Some x → ⊥
nothing_there zero d x h = absurd (cc h)
nothing_there (suc count) zero x h = absurd (cc h)
nothing_there (suc count) (suc d) x h = nothing_there count d x h
