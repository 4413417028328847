-- Rungs of fares that cost at most 1,000,000,000.
use Rattle.std.proofs.Common.{◌≡◌, ℕ, ◌≤◌, List, map, Some, sym, subst}
use Rattle.fare_ends.specs.Rungs.{AreLowFares, AreRungs}
use Rattle.fare_groups.specs.declared.group.GroupedFare.{GroupedFare}
use Rattle.fare_groups.specs.declared.rungs.Rung.{Rung}
use Rattle.fare_groups.specs.Grouping.{AreRungs as AreRungsOf, first_share, rung_of}
use Rattle.fare_groups.proofs.Reordered.{of_mapped}
use Rattle.fare_groups.proofs.RungFacts.{first_of}
use Rattle.fare_law.specs.Lists.{Each, IsIn}
use Rattle.law_lemmas.proofs.EachOne.{each_by, each_from, each_in}
use Rattle.fare_ends.specs.Floors.{FallWithMore}
use Rattle.fare_ends.proofs.Shares.{shares_fall}

-- no share is dearer than the fares
pub low_rungs : (fares : List GroupedFare) (rs : List Rung) → AreLowFares fares → AreRungsOf fares rs → AreRungs fares rs
low_rungs fares rs low h = record {
  fares_low = low;
  least = h.least;
  low = each_from (λ (r : Rung). r.share ≤ 1000000000) rs (λ r i.
      let of = of_mapped rung_of fares r (each_in (λ r. IsIn r (map rung_of fares)) rs r h.among i) in
      subst (λ (x : Rung). x.share ≤ 1000000000) (sym of.2) (each_in (λ (f : GroupedFare). (f.class ≤ 25) × (f.share ≤ 1000000000)) fares of.0 low of.1).1);
}

-- more classes have no dearer share
pub rungs_fall : (fares : List GroupedFare) (rs : List Rung) → AreRungs fares rs → FallWithMore (first_share rs)
rungs_fall fares rs h = shares_fall fares (first_share rs) (each_by (λ (f : GroupedFare). (f.class ≤ 25) × (f.share ≤ 1000000000)) (λ (f : GroupedFare). f.class ≤ 25) fares (λ f l. l.0) h.fares_low) h.least

-- a share is low
pub share_low : (fares : List GroupedFare) (rs : List Rung) (classes share : ℕ) → AreRungs fares rs → first_share rs classes ≡ Some share → share ≤ 1000000000
share_low fares rs classes share h e = let first = first_of rs classes share e in subst (λ n. n ≤ 1000000000) first.share_is (each_in (λ (r : Rung). r.share ≤ 1000000000) rs first.rung h.low first.within)
