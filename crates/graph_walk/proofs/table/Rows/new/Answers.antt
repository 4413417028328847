use Rattle.std.proofs.Common.{◌∙◌, sym, ap, arith}
use Rattle.graph_walk.specs.Rows.{marks_of}
use Rattle.graph_walk.proofs.Chains.{no_table}
use Rattle.graph_walk.proofs.table.Rows.new.Goals as goal

pub invariant_of-result : goal.invariant_of-result
invariant_of-result g c =
    let zeros = c.in_ok-from_elem.ensures.items_if_clones_equal in (
      no_table g.K.PartialEq.eq g.N.Spread.number c.with_room.result.items c.with_room-3.result.items c.in_ok-from_elem.field-0.items 4096 (omega arith) c.with_room.ensures c.with_room-3.ensures (zeros (λ y e. e)),
      c.with_room-2.ensures ∙ sym (ap (marks_of g.N.Spread.number) c.with_room.ensures),
    )
