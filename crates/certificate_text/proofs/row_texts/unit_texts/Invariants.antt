use Rattle.std.proofs.Common.{◌≡◌, take, map}
use Rattle.residual_keys.specs.ResidualText.{unit_text}
use Rattle.certificate_text.proofs.row_texts.unit_texts.Given as goal

-- the texts of the units so far
abbrev pub invariant-loop-unit : goal.invariant-loop-unit
invariant-loop-unit l = l.texts ≡ map unit_text (take l.unit-index l.units)
