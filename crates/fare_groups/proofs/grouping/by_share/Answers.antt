use Rattle.std.proofs.Common.{rules}
use Rattle.std.proofs.lemmas.List.Sorted.{answers_always}
use Rattle.fare_groups.specs.declared.group.GroupedFare.{GroupedFare}
use Rattle.fare_groups.proofs.ByShare.{cheapest_first}
use Rattle.fare_groups.proofs.grouping.by_share.Goals as goal

pub returns-clause-order : goal.returns-clause-order
returns-clause-order c = cheapest_first c.sort_unstable_by_key.new.self.items (c.sort_unstable_by_key.ensures.sorted (λ (f : GroupedFare). f.share) (answers_always _ _ _ (λ f a r g k. search rules)))
