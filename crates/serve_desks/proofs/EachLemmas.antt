-- Lists of which each element is such: one is taken, set, added.
use Rattle.std.proofs.Common.{◌<◌, ℕ, zero, suc, All, List, [], ◌∷◌, ◌++◌, length, slice_index_or, slice_set, arith}
use Rattle.fare_law.specs.Lists.{Each}

module _ {X : Type 0} (P : X → Type 0) where
  pub each_at : (xs : List X) (i : ℕ) (d : X) → i < length xs → Each P xs → P (slice_index_or xs i d)
  each_at [] i d h all = absurd (omega (arith, h))
  each_at (x ∷ xs) zero d h all = all.0
  each_at (x ∷ xs) (suc i) d h all = each_at xs i d (omega (arith, h)) all.1

  pub each_set : (xs : List X) (i : ℕ) (y : X) → Each P xs → P y → Each P (slice_set xs i y)
  each_set [] i y all h = tt
  each_set (x ∷ xs) zero y all h = (h, all.1)
  each_set (x ∷ xs) (suc i) y all h = (all.0, each_set xs i y all.1 h)

  pub each_and : (xs : List X) (y : X) → Each P xs → P y → Each P (xs ++ y ∷ [])
  each_and [] y all h = (h, tt)
  each_and (x ∷ xs) y all h = (all.0, each_and xs y all.1 h)

  pub each_last : (xs : List X) (y : X) → Each P (xs ++ y ∷ []) → P y
  each_last [] y all = all.0
  each_last (x ∷ xs) y all = each_last xs y all.1

  pub each_but_last : (xs : List X) (y : X) → Each P (xs ++ y ∷ []) → Each P xs
  each_but_last [] y all = tt
  each_but_last (x ∷ xs) y all = (all.0, each_but_last xs y all.1)

  pub all_of_each : (xs : List X) → Each P xs → All P xs
  all_of_each xs all i d h = each_at xs i d h all
