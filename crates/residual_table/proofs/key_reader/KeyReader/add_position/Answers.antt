use Rattle.std.proofs.Common.{◌∙◌, ◌++◌, ap}
use Rattle.residual_keys.specs.ResidualReading.{position_in}
use Rattle.residual_table.proofs.KnownTexts.{both_known, units_known}
use Rattle.residual_table.proofs.key_reader.KeyReader.add_position.Goals as goal

pub invariant_of-self : goal.invariant_of-self
invariant_of-self c = both_known c.self.inside.parts c.position.new.self c.position.ensures.grows c.self.inside.position c.self.inside.units.items c.self.invariant

pub invariant_of-self-in_default : goal.invariant_of-self-in_default
invariant_of-self-in_default c = both_known c.self.inside.parts c.position.new.self c.position.ensures.grows c.self.inside.position c.self.inside.units.items c.self.invariant

pub invariant_of-self-in-Ok : goal.invariant_of-self-in-Ok
invariant_of-self-in-Ok c = (
  λ rest. record { at = c.args.at.now; spelled = ap (λ t. position_in (t ++ rest)) c.in-Ok.ensures ∙ c.requires rest; number = c.in_ok-number.ensures.number },
  units_known c.self.inside.parts c.position.new.self c.position.ensures.grows c.self.inside.units.items c.self.invariant.1,
)

pub invariant_of-self-in-Ok-2 : goal.invariant_of-self-in-Ok-2
invariant_of-self-in-Ok-2 c = (
  λ rest. record { at = c.args.at.now; spelled = ap (λ t. position_in (t ++ rest)) c.in-Ok.ensures ∙ c.requires rest; number = c.in_ok-number.ensures.number },
  units_known c.self.inside.parts c.position.new.self c.position.ensures.grows c.self.inside.units.items c.self.invariant.1,
)
