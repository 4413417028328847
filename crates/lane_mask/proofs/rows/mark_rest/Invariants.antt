use Rattle.lane_mask.specs.Spans.{AreMarked}
use Rattle.lane_mask.proofs.rows.mark_rest.Given as goal

abbrev pub invariant-loop-i : goal.invariant-loop-i
invariant-loop-i l = AreMarked l.lows l.highs l.day l.out l.i
