-- The text of findings.
use Rattle.std.specs.Prelude.{List, ℕ, [], ◌∷◌, ◌++◌, flat_map, codes, decimal}
use Rattle.std.specs.List.{join_with_byte}
use Rattle.fare_verdict.specs.declared.finding.Finding.{Finding}

-- breach R component c unit u category k, with LF
abbrev pub finding_line : Finding → List ℕ
finding_line f =
    join_with_byte 32 (codes "breach" ∷ decimal f.rule ∷ codes "component" ∷ decimal f.component ∷ codes "unit" ∷ decimal f.unit ∷ codes "category" ∷ decimal f.category ∷ [])
    ++ codes "\n"

-- a line each
abbrev pub findings_text : List Finding → List ℕ
findings_text findings = flat_map finding_line findings
