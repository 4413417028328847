use Rattle.std.proofs.Common.{◌≡◌, ℕ, ◌<◌, ◌≤◌, slice_get, Some}
use Rattle.joint_paths.specs.declared.crossing_heads.CrossingHead.{CrossingHead}
use Rattle.joint_paths.proofs.buckets.reach_of.Given as goal

abbrev pub invariant-loop-at : goal.invariant-loop-at
invariant-loop-at l = record {
  within : l.end ≤ l.at;
  each : (n : ℕ) (h : CrossingHead) → n < l.at → slice_get l.heads n ≡ Some h → h.count ≤ l.count → (n < l.end) × (l.low ≤ h.lo);
}
