use Rattle.std.proofs.Common.{rules}
use Rattle.lane_mask.proofs.SpanLemmas.{held_tells_rows}
use Rattle.lane_mask.proofs.rows.lanes_between.Goals as goal

pub returns : goal.returns
returns c = λ i l.
    held_tells_rows 16 c.load-lows.result c.load-highs.result c.args.lows.now c.args.highs.now c.args.day c.args.at i (search rules) (search rules) l
    (c.load-lows.ensures.fit i l) (c.load-highs.ensures.fit i l) c.ranges.day (c.load-lows.ensures.rows i l) (c.load-highs.ensures.rows i l)
