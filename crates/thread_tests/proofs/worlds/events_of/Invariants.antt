use Rattle.std.specs.Prelude.{All}
use Rattle.run_core.specs.Worlds.{IsEvent}
use Rattle.thread_tests.proofs.worlds.events_of.Given as goal

abbrev pub invariant-loop-step : goal.invariant-loop-step
invariant-loop-step l = All IsEvent l.events.items
