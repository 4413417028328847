use Rattle.std.proofs.Common.{take}
use Rattle.search_steps.specs.Shortening.{IsShorter}
use Rattle.search_steps.proofs.shortening.shortened.Given as goal

abbrev pub invariant-loop-step : goal.invariant-loop-step
invariant-loop-step l = IsShorter (take l.step-index l.steps) l.kept.items
