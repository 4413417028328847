-- The rows of a certificate by the keys of steps, and steps that were asked.
use Rattle.std.specs.Prelude.{◌≡◌, ℕ, Bool, true, List, map, Option, Some, slice_get}
use Rattle.certificate.specs.declared.numbered.NumberedRow.{NumberedRow}
use Rattle.certificate.specs.declared.parts.CertRow.{CertRow}
use Rattle.certificate.specs.NumberedRows.{bound_of, key_of}
use Rattle.graph_walk.specs.Steps.{AreLive, KeepsStates, rows_of}
use Rattle.residual_keys.specs.Residuals.{State}
use Rattle.residual_table.specs.declared.key.ResidualKey.{ResidualKey}
use Rattle.search_steps.specs.declared.steps.SearchSteps.{SearchSteps}
use Rattle.search_steps.specs.Cases.{IsSameCase}
use Rattle.search_steps.specs.Keys.{live, state}

-- the keys of rows, with their bounds
abbrev pub entries_of : List NumberedRow → List (ResidualKey × Option ℕ)
entries_of rows = map (λ r. (key_of r, bound_of r)) rows

-- An entry whose key is this one, by its test, has this bound.
pub record IsPlaced (test : ResidualKey → ResidualKey → Bool) (key : ResidualKey) (entries : List (ResidualKey × Option ℕ)) (found : Option ℕ) : Type 0 where
  pub place : ℕ
  pub entry : ResidualKey × Option ℕ
  pub there : slice_get entries place ≡ Some entry
  pub same : test key entry.0 ≡ true
  pub bound : entry.1 ≡ found

abbrev pub row_as : CertRow → State × Option ℕ
row_as row = (row.residual, row.bound)

-- The keys of these entries stand for the residuals of the rows, in order, and have their bounds.
pub record HasRows (steps : SearchSteps) (entries : List (ResidualKey × Option ℕ)) (rows : List CertRow) : Type 0 where
  pub live : AreLive (live steps) entries
  pub same : rows_of (state steps) entries ≡ map row_as rows

-- What stays of steps that were asked: book and request, and what keys stand for.
pub record IsLater (s t : SearchSteps) : Type 0 where
  pub case : IsSameCase s t
  pub keeps : KeepsStates (live s) (live t) (state s) (state t)
