use Rattle.std.proofs.Common.{arith}
use Rattle.lane_mask.proofs.SpanLemmas.{marked_step}
use Rattle.lane_mask.proofs.rows.between.Goals as goal

pub loop-out-preserved : goal.loop-out-preserved
loop-out-preserved c = record {
  room = omega arith;
  marked = marked_step _ _ _ _ _ _ _ _ c.lanes_between-lanes.ensures c.mark_lanes.ensures.marks c.mark_lanes.ensures.before c.loop-out.invariant.marked;
}
