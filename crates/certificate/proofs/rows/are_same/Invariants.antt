use Rattle.std.proofs.Common.{◌≡◌, drop}
use Rattle.std.specs.Cmp.Lexicographic.{pointwise}
use Rattle.certificate.specs.contracts.parts.CertRowPartialEq.TheImpl as row
use Rattle.certificate.proofs.rows.are_same.Given as goal

abbrev pub invariant-loop-place : goal.invariant-loop-place
invariant-loop-place l = pointwise row.ghosts.eq (drop l.place l.one) (drop l.place l.other) ≡ pointwise row.ghosts.eq l.one l.other
