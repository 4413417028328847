use Rattle.open_unit.proofs.OtherFares.{read_alone, read_in_ranges}
use Rattle.open_unit.proofs.units.OpenUnit.alone.Goals as goal

pub alone_by-requires : goal.alone_by-requires
alone_by-requires c = read_in_ranges c.args.piece.now c.of.result c.of.ensures c.requires

pub returns : goal.returns
returns c =
    let same = read_alone c.args.piece.now c.of.result c.of.ensures in
    (λ t. same.0 (c.alone_by.ensures.0 t), λ m. c.alone_by.ensures.1 (same.1 m))
