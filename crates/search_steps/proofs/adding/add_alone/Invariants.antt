use Rattle.std.proofs.Common.{true, take}
use Rattle.search_steps.specs.Giving.{LeftBy}
use Rattle.search_steps.specs.Numbers.{AddsAll}
use Rattle.search_steps.proofs.adding.add_alone.Given as goal

abbrev pub invariant-loop-step : goal.invariant-loop-step
invariant-loop-step l = AddsAll (λ r. LeftBy r true r.units) l.key (take l.step-index l.steps) l.initial.found.items l.found.items
