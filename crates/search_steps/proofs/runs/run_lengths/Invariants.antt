use Rattle.std.proofs.Common.{◌≡◌, ◌≤◌, ◌+◌, ℕ, length, slice_get, Some}
use Rattle.search_steps.specs.Runs.{IsRun, IsRunAt}
use Rattle.search_steps.proofs.runs.run_lengths.Given as goal

abbrev pub invariant-loop-at : goal.invariant-loop-at
invariant-loop-at l = record {
  many : length l.lengths.items ≡ l.at;
  each : (i n : ℕ) → slice_get l.lengths.items i ≡ Some n → IsRunAt l.entries l.bare i n;
  within : l.at + l.left ≤ length l.entries;
  run : IsRun l.entries l.bare l.at l.left;
}
