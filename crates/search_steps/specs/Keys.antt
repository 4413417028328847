-- The keys of steps and what they stand for.
use Rattle.residual_keys.specs.Residuals.{State}
use Rattle.residual_table.specs.declared.key.ResidualKey.{ResidualKey}
use Rattle.residual_table.specs.Keys.{IsLive, residual_at}
use Rattle.search_steps.specs.declared.steps.SearchSteps.{SearchSteps}

-- the key stands for a residual with these steps
abbrev pub live : SearchSteps → ResidualKey → Type 0
live steps key = IsLive steps.case.numbers key

-- the residual that it stands for
abbrev pub state : SearchSteps → ResidualKey → State
state steps key = residual_at steps.case.numbers key
