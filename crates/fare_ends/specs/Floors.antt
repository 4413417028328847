-- What a group of fares costs on paths, and floors of that.
use Rattle.std.specs.Prelude.{◌≡◌, ◌≢◌, ◌⊎◌, ◌≤◌, ◌+◌, ℕ, List, [], ◌++◌, Option, None, Some, MatchOption}
use Rattle.fare_groups.specs.declared.group.GroupedFare.{GroupedFare}
use Rattle.fare_groups.specs.Grouping.{Cheapest}
use Rattle.fare_groups.specs.Groups.{Permits, extra_of}
use Rattle.fare_law.specs.declared.flights.Flight.{Flight}
use Rattle.fare_law.specs.declared.names.Carrier.{Carrier}
use Rattle.fare_law.specs.declared.rules.Rule.{Rule}
use Rattle.fare_law.specs.Lists.{Each}
use Rattle.fare_ends.specs.Legs.{AreAmong}

-- A path by its flights, with the classes of seats that are open in all of them.
pub record OpenPath : Type 0 where
  pub flights : List Flight
  pub classes : ℕ

-- What a group costs on a path, if its rule permits it and one of its fares is open there. The shares are those of its cheapest fares among any classes.
pub record CostsOn (rule : Rule) (carrier : Carrier) (shares : ℕ → Option ℕ) (p : OpenPath) (price : ℕ) : Type 0 where
  pub permits : Permits rule carrier p.flights
  pub share : ℕ
  pub open_share : shares p.classes ≡ Some share
  pub price_is : price ≡ share + extra_of rule p.flights

-- No path is below the floor: what a group costs on any of them is at least this.
abbrev pub NoneBelow : Rule → Carrier → (ℕ → Option ℕ) → (OpenPath → Type 0) → ℕ → Type 0
NoneBelow rule carrier shares paths floor = (p : OpenPath) → paths p → (price : ℕ) → CostsOn rule carrier shares p price → floor ≤ price

-- a group costs this on one of some paths
pub record CostsOnSome (rule : Rule) (carrier : Carrier) (shares : ℕ → Option ℕ) (paths : OpenPath → Type 0) (price : ℕ) : Type 0 where
  pub path : OpenPath
  pub one_of : paths path
  pub costs : CostsOn rule carrier shares path price

-- The least price of a group on some paths: it costs this on one of them, and none is below. None exactly where it has none.
pub record IsLeastPrice (rule : Rule) (carrier : Carrier) (shares : ℕ → Option ℕ) (paths : OpenPath → Type 0) (price : ℕ) : Type 0 where
  pub some : CostsOnSome rule carrier shares paths price
  pub floor : NoneBelow rule carrier shares paths price

abbrev pub IsLeastOn : Rule → Carrier → (ℕ → Option ℕ) → (OpenPath → Type 0) → Option ℕ → Type 0
IsLeastOn rule carrier shares paths least = MatchOption least ((price : ℕ) → CostsOnSome rule carrier shares paths price → ⊥) (IsLeastPrice rule carrier shares paths)

-- the paths of the one kind and of the other
abbrev pub Either : (OpenPath → Type 0) → (OpenPath → Type 0) → OpenPath → Type 0
Either one other p = one p ⊎ other p

-- Among more classes the cheapest fare costs no more.
abbrev pub FallWithMore : (ℕ → Option ℕ) → Type 0
FallWithMore shares = (few more : ℕ) → AreAmong few more → (share : ℕ) → shares few ≡ Some share → (least : ℕ) × (shares more ≡ Some least) × (least ≤ share)

-- So do the least shares of fares.
abbrev pub SharesFall : Type 0
SharesFall = (fares : List GroupedFare) (shares : ℕ → Option ℕ) → Each (λ f. f.class ≤ 25) fares → ((classes : ℕ) → Cheapest classes fares (shares classes)) → FallWithMore shares

-- The flights are a head and a tail. The rule adds at least so much on the head, if it permits it, and so much on the tail.
pub record AddsAtLeast (rule : Rule) (carrier : Carrier) (heads tails : ℕ) (fs : List Flight) : Type 0 where
  pub head : List Flight
  pub tail : List Flight
  pub parts : fs ≡ head ++ tail
  pub some : head ≢ []
  pub on_head : Permits rule carrier head → heads ≤ extra_of rule head
  pub on_tail : tails ≤ extra_of rule tail

-- A floor of parts: the cheapest share among classes of which each that is open on the path is one, what the rule adds at least on the heads that it permits, and what it adds at least on the tails. No price of the path is below.
abbrev pub FloorOfParts : Type 0
FloorOfParts = (rule : Rule) (carrier : Carrier) (shares : ℕ → Option ℕ) → FallWithMore shares → (p : OpenPath) (classes share heads tails : ℕ) → shares classes ≡ Some share
    → (Permits rule carrier p.flights → AreAmong p.classes classes × AddsAtLeast rule carrier heads tails p.flights)
    → (price : ℕ) → CostsOn rule carrier shares p price → (share + heads + tails) ≤ price

-- Where no fare is of one of these classes, the group costs nothing on the path.
abbrev pub NoneIsOpen : Type 0
NoneIsOpen = (rule : Rule) (carrier : Carrier) (shares : ℕ → Option ℕ) → FallWithMore shares → (p : OpenPath) (classes : ℕ) → shares classes ≡ None
    → (Permits rule carrier p.flights → AreAmong p.classes classes)
    → (price : ℕ) → CostsOn rule carrier shares p price → ⊥
