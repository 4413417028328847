-- The cheapest fares of a group by classes, with what a share may be.
use Rattle.std.specs.Prelude.{◌≤◌, ℕ, List}
use Rattle.fare_groups.specs.declared.group.GroupedFare.{GroupedFare}
use Rattle.fare_groups.specs.declared.rungs.Rung.{Rung}
use Rattle.fare_groups.specs.Grouping.{Cheapest, first_share}
use Rattle.fare_law.specs.Lists.{Each}

-- fares of classes from A to Z that cost at most 1,000,000,000
abbrev pub AreLowFares : List GroupedFare → Type 0
AreLowFares fares = Each (λ (f : GroupedFare). (f.class ≤ 25) × (f.share ≤ 1000000000)) fares

-- Rungs of some fares: among any classes the first one's share is the least of the fares. Shares are at most 1,000,000,000.
pub record AreRungs (fares : List GroupedFare) (rungs : List Rung) : Type 0 where
  pub fares_low : AreLowFares fares
  pub least : (classes : ℕ) → Cheapest classes fares (first_share rungs classes)
  pub low : Each (λ (r : Rung). r.share ≤ 1000000000) rungs
