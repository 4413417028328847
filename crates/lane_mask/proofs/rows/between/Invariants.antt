use Rattle.std.proofs.Common.{◌≤◌, ◌-◌, length}
use Rattle.lane_mask.specs.Spans.{AreMarked}
use Rattle.lane_mask.proofs.rows.between.Given as goal

abbrev pub invariant-loop-out : goal.invariant-loop-out
invariant-loop-out l = record {
  room : l.at ≤ length l.out;
  marked : AreMarked l.lows l.highs l.day l.out l.at;
}

abbrev pub decreases-loop-out : goal.decreases-loop-out
decreases-loop-out l = length l.initial.out - l.at
