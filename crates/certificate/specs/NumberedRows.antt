-- Rows by the numbers of what their residuals consist of.
use Rattle.std.specs.Prelude.{ℕ, ◌+◌, ◌*◌, List, map, if◌then◌else◌, Option, Some, None}
use Rattle.certificate.specs.declared.numbered.NumberedRow.{NumberedRow}
use Rattle.certificate.specs.declared.parts.CertRow.{CertRow}
use Rattle.fare_law.specs.Lists.{Each}
use Rattle.residual_table.specs.declared.key.ResidualKey.{ResidualKey}
use Rattle.residual_table.specs.Keys.{IsLive, Tables, residual_at}

-- the key of its residual
abbrev pub key_of : NumberedRow → ResidualKey
key_of r = record { position = r.position; first = r.first; second = r.second; part = r.part }

-- its bound, of two halves
abbrev pub bound_of : NumberedRow → Option ℕ
bound_of r = if r.bounded then Some (r.low + r.high * 4294967296) else None

-- the row that it is, by these tables
abbrev pub row_of : Tables → NumberedRow → CertRow
row_of t r = record { residual = residual_at t (key_of r); bound = bound_of r }

abbrev pub rows_of : Tables → List NumberedRow → List CertRow
rows_of t rows = map (row_of t) rows

-- each key stands for a residual
abbrev pub AreLive : Tables → List NumberedRow → Type 0
AreLive t rows = Each (λ r. IsLive t (key_of r)) rows
