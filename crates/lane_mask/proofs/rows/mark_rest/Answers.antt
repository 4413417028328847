use Rattle.std.proofs.Common.{◌↔◌, rules, arith, w32, to_z, of_z, IsTrue}
use Rattle.lane_mask.specs.Spans.{HoldsDay}
use Rattle.lane_mask.proofs.SpanLemmas.{marked_more}
use Rattle.lane_mask.proofs.rows.mark_rest.Goals as goal

pub loop-i-preserved : goal.loop-i-preserved
loop-i-preserved c =
    let told : IsTrue c.holds_day.result ↔ HoldsDay c.args.lows.now c.args.highs.now (to_z w32 (of_z w32 c.args.day)) c.loop-i.i = search rules in
    marked_more _ _ _ _ _ _ (omega arith) told c.loop-i.invariant
