use Rattle.std.proofs.Common.{◌≡◌, reverse, take}
use Rattle.run_core.specs.Worlds.{ComesOf}
use Rattle.run_core.proofs.stepping.run_all.Given as goal

abbrev pub invariant-loop-event : goal.invariant-loop-event
invariant-loop-event l = (l.place ≡ l.event-index) × ComesOf l.initial.world (reverse (take l.event-index l.events)) l.world
