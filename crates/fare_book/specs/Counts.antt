-- How many keys there are of a kind.
use Rattle.std.specs.Prelude.{◌≤◌, ℕ}
use Rattle.fare_law.specs.Lists.{HasMany}

-- no more than so many keys are of this kind
abbrev pub AtMost : {K : Type 0} → ℕ → (K → Type 0) → Type 0
AtMost n Has = (m : ℕ) → HasMany m Has → m ≤ n

-- so many keys are of this kind, and no more
pub record Exactly {K : Type 0} (n : ℕ) (Has : K → Type 0) : Type 0 where
  pub many : HasMany n Has
  pub most : AtMost n Has
