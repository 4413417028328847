-- Lists of steps without what another of the list makes idle.
use Rattle.std.specs.Prelude.{◌≡◌, ◌≤◌, ℕ, List, Some, slice_get}
use Rattle.fare_law.specs.Lists.{Each, IsIn}
use Rattle.search_steps.specs.declared.numbered.Step.{Step}

-- the steps have one mark
pub record HaveOneMark (s u : Step) : Type 0 where
  pub after : s.after ≡ u.after
  pub unit : s.unit ≡ u.unit
  pub carrier : s.carrier ≡ u.carrier
  pub ends : s.ends ≡ u.ends

-- the list has a step of this mark at no higher price
abbrev pub HasNoDearer : List Step → Step → Type 0
HasNoDearer ss s = (u : Step) × IsIn u ss × HaveOneMark u s × (u.price ≤ s.price)

-- The new list is a part of the old one, and has each of its marks at no higher price.
pub record IsShorter (old new : List Step) : Type 0 where
  pub part : Each (λ s. IsIn s old) new
  pub covered : (s : Step) → IsIn s old → HasNoDearer new s

-- a step of this mark stands at a place
abbrev pub HasMarkAt : List Step → Step → ℕ → Type 0
HasMarkAt ss s n = (u : Step) × (slice_get ss n ≡ Some u) × HaveOneMark u s
