use Rattle.std.proofs.Common.{◌≡◌, IfSome, subst}
use Rattle.open_unit.specs.OpenUnits.{gone_on}
use Rattle.open_unit.proofs.OtherFares.{read_goes_on, read_in_ranges}
use Rattle.open_unit.proofs.units.OpenUnit.go_on.Goals as goal

pub go_on_by-requires-clause-facts : goal.go_on_by-requires-clause-facts
go_on_by-requires-clause-facts c = read_in_ranges c.args.piece.now c.of.result c.of.ensures c.requires.piece

pub returns-clause-goes_on : goal.returns-clause-goes_on
returns-clause-goes_on c =
    let same = read_goes_on c.args.piece.now c.of.result c.of.ensures c.args.self.now in
    (λ s. same.0 (c.go_on_by.ensures.goes_on.0 s), λ m. c.go_on_by.ensures.goes_on.1 (same.1 m))

pub returns-clause-unit : goal.returns-clause-unit
returns-clause-unit c = subst (λ p. IfSome c.go_on_by.result (λ u. u ≡ gone_on c.args.self.now p)) c.of.ensures c.go_on_by.ensures.unit
