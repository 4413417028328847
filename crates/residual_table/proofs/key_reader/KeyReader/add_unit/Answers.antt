use Rattle.residual_table.proofs.KnownTexts.{both_known}
use Rattle.residual_table.proofs.key_reader.KeyReader.add_unit.Goals as goal

pub invariant_of-self : goal.invariant_of-self
invariant_of-self c = both_known c.self.inside.parts c.unit_slot.new.self c.unit_slot.ensures.grows c.self.inside.position c.self.inside.units.items c.self.invariant
