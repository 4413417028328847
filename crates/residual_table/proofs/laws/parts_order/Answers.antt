use Rattle.residual_table.proofs.PartsInOrder.{part_less, part_same, position_less, parts_ordered, positions_ordered, unit_less, units_ordered}
use Rattle.residual_table.proofs.laws.parts_order.Goals as goal

pub returns-clause-positions : goal.returns-clause-positions
returns-clause-positions c = positions_ordered c.residual_order.ensures.order

pub returns-clause-units : goal.returns-clause-units
returns-clause-units c = units_ordered c.residual_order.ensures.order

pub returns-clause-parts : goal.returns-clause-parts
returns-clause-parts c = parts_ordered c.residual_order.ensures.order

pub returns-clause-position_less : goal.returns-clause-position_less
returns-clause-position_less c = position_less c.residual_order.ensures.order c.residual_order.ensures.before

pub returns-clause-unit_less : goal.returns-clause-unit_less
returns-clause-unit_less c = unit_less c.residual_order.ensures.order c.residual_order.ensures.before

pub returns-clause-part_less : goal.returns-clause-part_less
returns-clause-part_less c = part_less c.residual_order.ensures.order c.residual_order.ensures.before

pub returns-clause-part_same : goal.returns-clause-part_same
returns-clause-part_same c = part_same c.residual_order.ensures.same
