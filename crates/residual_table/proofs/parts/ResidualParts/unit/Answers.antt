use Rattle.std.proofs.Common.{subst}
use Rattle.std.proofs.lemmas.Result.{IfOk-weaker}
use Rattle.open_unit.specs.Ranges.{UnitInRanges}
use Rattle.open_unit.specs.contracts.units.OpenUnitPartialEq.TheImpl as unit
use Rattle.residual_table.specs.Keys.{Grows, Tables}
use Rattle.residual_table.proofs.Numbers.{each_added, found_is, keeps_added, once_added}
use Rattle.residual_table.proofs.parts.ResidualParts.unit.Goals as goal

pub invariant_of-self : goal.invariant_of-self
invariant_of-self c = record {
  positions = c.self.invariant.positions;
  units = once_added UnitInRanges unit.ghosts.eq c.parts_tell.ensures.units c.self.inside.units.keys c.add.new.table.keys c.args.unit.now c.add.ensures.added c.self.invariant.units (c.self.invariant.units_kept) c.requires;
  units_kept = each_added unit.ghosts.eq UnitInRanges c.self.inside.units.keys c.add.new.table.keys c.args.unit.now c.add.ensures.added (c.self.invariant.units_kept) c.requires;
  few_positions = c.self.invariant.few_positions;
  few_units = c.add.ensures.few c.self.invariant.few_units;
}

pub returns-clause-grows : goal.returns-clause-grows
returns-clause-grows c =
    let new : Tables = record { positions = c.self.inside.positions.keys; units = c.add.new.table.keys } in
    subst (λ old. Grows old new) c.self.view_is (record {
      positions = λ n x h. h;
      units = keeps_added unit.ghosts.eq c.self.inside.units.keys c.add.new.table.keys c.args.unit.now c.add.ensures.added;
    })

pub returns-clause-number : goal.returns-clause-number
returns-clause-number c = IfOk-weaker c.add.result _ _ (λ n h. found_is UnitInRanges unit.ghosts.eq c.parts_tell.ensures.units c.add.new.table.keys n c.args.unit.now (each_added unit.ghosts.eq UnitInRanges c.self.inside.units.keys c.add.new.table.keys c.args.unit.now c.add.ensures.added (c.self.invariant.units_kept) c.requires) c.requires h) c.add.ensures.number
