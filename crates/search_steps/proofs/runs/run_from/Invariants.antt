use Rattle.std.proofs.Common.{◌≡◌, ◌≤◌, ◌+◌}
use Rattle.search_steps.specs.Runs.{IsRun}
use Rattle.search_steps.proofs.runs.run_from.Given as goal

abbrev pub invariant-loop-at : goal.invariant-loop-at
invariant-loop-at l = record {
  some : 1 ≤ l.count;
  at : l.at ≡ l.from + l.count;
  run : IsRun l.entries l.bare l.from l.count;
}
