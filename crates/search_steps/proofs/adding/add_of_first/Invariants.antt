use Rattle.std.proofs.Common.{take}
use Rattle.search_steps.specs.Giving.{UnitBy}
use Rattle.search_steps.specs.Numbers.{AddsAll}
use Rattle.search_steps.proofs.adding.add_of_first.Given as goal

abbrev pub invariant-loop-step : goal.invariant-loop-step
invariant-loop-step l = AddsAll (λ r. UnitBy r 0) l.key (take l.step-index l.steps) l.initial.found.items l.found.items
