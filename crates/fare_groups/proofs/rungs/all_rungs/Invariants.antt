use Rattle.std.proofs.Common.{◌≡◌, map, take}
use Rattle.fare_groups.specs.Grouping.{rung_of}
use Rattle.fare_groups.proofs.rungs.all_rungs.Given as goal

abbrev pub invariant-loop-fare : goal.invariant-loop-fare
invariant-loop-fare l = l.all.items ≡ map rung_of (take l.fare-index l.fares)
