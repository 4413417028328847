use Rattle.std.proofs.Common.{take}
use Rattle.fare_groups.proofs.RungFacts.{TakesFirsts}
use Rattle.fare_groups.proofs.rungs.firsts_of.Given as goal

abbrev pub invariant-loop-rung : goal.invariant-loop-rung
invariant-loop-rung l = TakesFirsts l.all (take l.rung-index l.all) l.seen l.firsts
