use Rattle.open_unit.proofs.OtherFares.{read_in_ranges, read_kind, read_no_kind}
use Rattle.open_unit.proofs.units.OpenUnit.close.Goals as goal

pub close_by-requires-clause-facts : goal.close_by-requires-clause-facts
close_by-requires-clause-facts c = read_in_ranges c.args.piece.now c.of.result c.of.ensures c.requires.piece

pub returns-clause-closes : goal.returns-clause-closes
returns-clause-closes c = read_kind c.args.piece.now c.of.result c.of.ensures c.args.self.now c.close_by.result c.close_by.ensures.closes

pub returns-clause-else_none : goal.returns-clause-else_none
returns-clause-else_none c = read_no_kind c.args.piece.now c.of.result c.of.ensures c.args.self.now c.close_by.result c.close_by.ensures.else_none
