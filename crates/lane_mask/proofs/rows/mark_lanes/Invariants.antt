use Rattle.std.proofs.Common.{ℕ, ◌+◌, ◌<◌, ◌≡◌, ◌≢◌, ◌↔◌, false, pos, get_or, IsTrue}
use Rattle.lane_mask.proofs.rows.mark_lanes.Given as goal

abbrev pub invariant-loop-i : goal.invariant-loop-i
invariant-loop-i l = record {
  marks : (k : ℕ) → k < l.i → (IsTrue (get_or l.out (l.at + k) false) ↔ (get_or l.lanes k (pos 0) ≢ pos 0));
  before : (k : ℕ) → k < l.at → get_or l.out k false ≡ get_or l.fn.out k false;
}
