-- What a group of fares costs on paths.
use Rattle.std.specs.Prelude.{◌≤◌, ℕ, List, Option, None, Some, IfSome}
use Rattle.fare_ends.specs.declared.rule_numbers.KnownRule.{KnownRule}
use Rattle.fare_groups.specs.declared.rungs.Rung.{Rung}
use Rattle.fare_groups.specs.Grouping.{first_share}
use Rattle.fare_ends.specs.Floors.{CostsOn, CostsOnSome, IsLeastOn, NoneBelow, OpenPath}

-- what a group of these rungs costs on a path, by this rule
abbrev pub Costs : KnownRule → List Rung → OpenPath → ℕ → Type 0
Costs r rungs = CostsOn r.rule r.carrier (first_share rungs)

-- it costs on none of some paths less than a floor
abbrev pub CostsNoLess : KnownRule → List Rung → (OpenPath → Type 0) → ℕ → Type 0
CostsNoLess r rungs = NoneBelow r.rule r.carrier (first_share rungs)

-- on some paths this is the least that it costs
abbrev pub CostsLeast : KnownRule → List Rung → (OpenPath → Type 0) → Option ℕ → Type 0
CostsLeast r rungs = IsLeastOn r.rule r.carrier (first_share rungs)

-- a price is at least the least so far
abbrev pub IsAtLeast : Option ℕ → ℕ → Type 0
IsAtLeast None price = ⊥
IsAtLeast (Some least) price = least ≤ price

-- a group costs this on one of some paths
abbrev pub CostsOnOne : KnownRule → List Rung → (OpenPath → Type 0) → ℕ → Type 0
CostsOnOne r rungs = CostsOnSome r.rule r.carrier (first_share rungs)

-- a price so far is at most that of the dearest fare with the dearest charges
abbrev pub IsLowPrice : Option ℕ → Type 0
IsLowPrice least = IfSome least (λ l. l ≤ 1035000000)

-- The least price so far goes on to one that is no higher, and some more paths are done: none of them is below.
pub record GoesDown (rule : KnownRule) (rungs : List Rung) (all more : OpenPath → Type 0) (old new : Option ℕ) : Type 0 where
  pub some : IfSome old (CostsOnOne rule rungs all) → IfSome new (CostsOnOne rule rungs all)
  pub low : IsLowPrice old → IsLowPrice new
  pub falls : (price : ℕ) → IsAtLeast old price → IsAtLeast new price
  pub done : (p : OpenPath) → more p → (price : ℕ) → Costs rule rungs p price → IsAtLeast new price
