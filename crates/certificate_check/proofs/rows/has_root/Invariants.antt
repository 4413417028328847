use Rattle.std.proofs.Common.{take}
use Rattle.certificate.specs.RowCheck.{RootIsRow}
use Rattle.certificate_check.proofs.rows.has_root.Given as goal

abbrev pub invariant-loop-place : goal.invariant-loop-place
invariant-loop-place l = RootIsRow l.book l.request (take l.place l.rows) → ⊥
