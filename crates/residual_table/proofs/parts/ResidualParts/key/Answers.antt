use Rattle.std.proofs.Common.{refl, subst}
use Rattle.residual_table.specs.Keys.{StandsFor}
use Rattle.residual_table.proofs.KeyFacts.{slot_keeps, units_back}
use Rattle.residual_table.proofs.parts.ResidualParts.key.Goals as goal

pub returns-clause-stands : goal.returns-clause-stands
returns-clause-stands c =
    let before = c.unit_slot.new.self in
    let after = c.unit_slot-2.new.self in
    let r = c.residual.inside in
    let keeps = c.unit_slot-2.ensures.grows in
    subst (StandsFor after _) c.residual.view_is (record {
      at = keeps.positions c.in_ok-position.position r.at (c.unit_slot.ensures.grows.positions c.in_ok-position.position r.at c.in_ok-position.ensures.number);
      units = units_back after.units c.in_ok-first.first c.in_ok-second.second r.unit1 r.unit2 (slot_keeps before.units after.units c.in_ok-first.first r.unit1 keeps.units c.in_ok-first.ensures.slot) c.in_ok-second.ensures.slot c.residual.invariant.turn;
      part = refl;
      kept = c.residual.invariant.part;
    })
