use Rattle.std.proofs.Common.{◌≤◌, subst, sym}
use Rattle.std.proofs.lemmas.List.Sorted.{IsPermutation-sym}
use Rattle.fare_groups.specs.declared.group.GroupedFare.{GroupedFare}
use Rattle.fare_groups.specs.Grouping.{AreCheapestFirst}
use Rattle.fare_groups.proofs.Reordered.{in_reordered}
use Rattle.fare_law.specs.Lists.{Each}
use Rattle.law_lemmas.proofs.EachOne.{each_from, each_in}
use Rattle.fare_groups.proofs.grouping.finished.Goals as goal

pub rungs_of-requires-clause-low : goal.rungs_of-requires-clause-low
rungs_of-requires-clause-low c =
    let old = c.as_slice.result.now in
    let new = c.in_ok-fares.fares.items in
    let low = subst (Each (λ (f : GroupedFare). f.class ≤ 25)) (sym c.as_slice.ensures) c.requires in
    subst (Each (λ (f : GroupedFare). f.class ≤ 25)) (sym c.as_slice-2.ensures.value)
    (each_from (λ (f : GroupedFare). f.class ≤ 25) new (λ f i. each_in (λ (x : GroupedFare). x.class ≤ 25) old f low (in_reordered new old f (IsPermutation-sym old new c.in_ok-fares.ensures.same) i)))

pub rungs_of-requires-clause-order : goal.rungs_of-requires-clause-order
rungs_of-requires-clause-order c = subst AreCheapestFirst (sym c.as_slice-2.ensures.value) c.in_ok-fares.ensures.order
