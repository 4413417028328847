use Rattle.std.proofs.Common.{rules}
use Rattle.std.specs.Ordering.{is_lt}
use Rattle.std.proofs.lemmas.List.Filters.{dedup_is}
use Rattle.std.proofs.lemmas.List.MinMax.{ranks_by}
use Rattle.std.proofs.lemmas.List.Sorted.{answers_always}
use Rattle.fare_groups.specs.contracts.group.GroupKeyPartialEq.TheImpl as key
use Rattle.fare_groups.specs.declared.group.GroupKey.{GroupKey}
use Rattle.fare_groups.specs.Grouping.{key_order}
use Rattle.fare_groups.proofs.KeyOrder.{key_total, keys_are, keys_compared}
use Rattle.fare_groups.proofs.grouping.keys_of.Goals as goal

pub returns : goal.returns
returns c =
    let sorted = c.sort_unstable_by.ensures.sorted (λ j k. is_lt (key_order j k)) (ranks_by key_total (λ (k : GroupKey). k)) (answers_always _ _ _ (λ f a r g k. search rules)) in
    keys_are key.ghosts.eq keys_compared c.args.rows.now c.in_ok-keys.keys.items c.sort_unstable_by.new.self.items c.in_ok-keys.ensures c.sort_unstable_by.ensures.permutation sorted
    c.dedup.new.self.items (dedup_is key.ghosts.eq c.sort_unstable_by.new.self.items c.dedup.new.self.items c.dedup.ensures.filtered)
