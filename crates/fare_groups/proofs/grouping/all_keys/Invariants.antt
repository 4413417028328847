use Rattle.std.proofs.Common.{◌≡◌, map, take}
use Rattle.fare_groups.specs.Groups.{group_of}
use Rattle.fare_groups.proofs.grouping.all_keys.Given as goal

abbrev pub invariant-loop-row : goal.invariant-loop-row
invariant-loop-row l = l.keys.items ≡ map group_of (take l.row-index l.rows)
