use Rattle.std.proofs.Common.{◌≡◌, IfSome, subst}
use Rattle.open_unit.specs.OpenUnits.{opened}
use Rattle.open_unit.proofs.OtherFares.{read_in_ranges, read_opens}
use Rattle.open_unit.proofs.units.OpenUnit.first.Goals as goal

pub first_by-requires : goal.first_by-requires
first_by-requires c = read_in_ranges c.args.piece.now c.of.result c.of.ensures c.requires

pub returns-clause-opens : goal.returns-clause-opens
returns-clause-opens c =
    let same = read_opens c.args.piece.now c.of.result c.of.ensures in
    (λ s. same.0 (c.first_by.ensures.opens.0 s), λ m. c.first_by.ensures.opens.1 (same.1 m))

pub returns-clause-unit : goal.returns-clause-unit
returns-clause-unit c = subst (λ p. IfSome c.first_by.result (λ u. u ≡ opened p)) c.of.ensures c.first_by.ensures.unit
