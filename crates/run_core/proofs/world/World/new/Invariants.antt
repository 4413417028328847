use Rattle.std.proofs.Common.{◌≡◌, replicate, None}
use Rattle.run_core.proofs.world.World.new.Given as goal

abbrev pub invariant-loop : goal.invariant-loop
invariant-loop l = l.sights.items ≡ replicate l.counter None
