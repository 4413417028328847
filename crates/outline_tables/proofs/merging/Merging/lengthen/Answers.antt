use Rattle.std.proofs.Common.{refl}
use Rattle.outline_tables.proofs.InHand.{merging_room}
use Rattle.outline_tables.proofs.merging.Merging.lengthen.Goals as goal

pub loop-self-preserved : goal.loop-self-preserved
loop-self-preserved c =
    let old = c.loop-self.self in
    record {
      merging = merging_room old (record { merge = old.merge; stands = c.push.new.self; table = old.table }) (record { merge = 0; at = 0 }) c.loop-self.invariant.merging refl refl refl c.in_ok-push.ensures.items;
      table = c.loop-self.invariant.table;
    }
