use Rattle.std.proofs.Common.{◌+◌, ◌*◌}
use Rattle.component_table.proofs.tables.TableRoom.new.Goals as goal

pub returns : goal.returns
returns c = λ b q. record {
  known = c.new.ensures b;
  ranges = c.new-2.ensures.ranges;
  flights = λ slice leg flight table lt stands f is. absurd (c.new-2.ensures.none (slice * 3 + leg) flight table stands);
  merging = c.new-5.ensures.merging;
}
