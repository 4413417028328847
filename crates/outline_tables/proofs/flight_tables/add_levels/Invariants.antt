use Rattle.std.proofs.Common.{◌+◌, ◌-◌, length}
use Rattle.outline_tables.specs.FlightTables.{KeepsLevels}
use Rattle.outline_tables.proofs.flight_tables.add_levels.Given as goal

abbrev pub invariant-loop-alloc : goal.invariant-loop-alloc
invariant-loop-alloc l = KeepsLevels l.initial.levels.items l.levels.items

abbrev pub decreases-loop-alloc : goal.decreases-loop-alloc
decreases-loop-alloc l = l.level + 1 - length l.levels.items
