use Rattle.std.proofs.Common.{◌≡◌, map, take}
use Rattle.fare_groups.specs.Grouping.{empty_group}
use Rattle.fare_groups.proofs.grouping.empty_groups.Given as goal

abbrev pub invariant-loop-key : goal.invariant-loop-key
invariant-loop-key l = l.groups.items ≡ map empty_group (take l.key-index l.keys)
