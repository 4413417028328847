use Rattle.std.proofs.Common.{subst}
use Rattle.flight_paths.specs.contracts.positions.PositionPartialEq.TheImpl as position
use Rattle.residual_table.specs.Keys.{Grows, Tables}
use Rattle.residual_table.proofs.Numbers.{each_any, keeps_added, once_added}
use Rattle.residual_table.proofs.parts.ResidualParts.position.Goals as goal

pub invariant_of-self : goal.invariant_of-self
invariant_of-self c = record {
  positions = once_added (λ _. Unit {0}) position.ghosts.eq (λ a b h k. c.parts_tell.ensures.positions a b) c.self.inside.positions.keys c.add.new.table.keys c.args.at c.add.ensures.added c.self.invariant.positions (each_any c.self.inside.positions.keys) tt;
  units = c.self.invariant.units;
  units_kept = c.self.invariant.units_kept;
  few_positions = c.add.ensures.few c.self.invariant.few_positions;
  few_units = c.self.invariant.few_units;
}

pub returns-clause-grows : goal.returns-clause-grows
returns-clause-grows c =
    let new : Tables = record { positions = c.add.new.table.keys; units = c.self.inside.units.keys } in
    subst (λ old. Grows old new) c.self.view_is (record {
      positions = keeps_added position.ghosts.eq c.self.inside.positions.keys c.add.new.table.keys c.args.at c.add.ensures.added;
      units = λ n x h. h;
    })
