use Rattle.std.proofs.Common.{ℕ, ◌+◌, ◌<◌, ◌≡◌, pos, length, get_or, w32, FitsSigned}
use Rattle.lane_mask.proofs.rows.load.Given as goal

abbrev pub invariant-loop-i : goal.invariant-loop-i
invariant-loop-i l = record {
  len : length l.lanes ≡ 16;
  rows : (k : ℕ) → k < l.i → get_or l.lanes k (pos 0) ≡ get_or l.column (l.at + k) (pos 0);
  fit : (k : ℕ) → k < l.i → FitsSigned w32 (get_or l.lanes k (pos 0));
}
