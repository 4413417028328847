-- Texts of what the residuals of rows consist of, by number.
use Rattle.std.specs.Prelude.{List, [], ◌∷◌, ℕ, ◌++◌, map, codes}
use Rattle.std.specs.List.{join_with_byte}
use Rattle.certificate_text.specs.declared.row_texts.RowTexts.{RowTexts}
use Rattle.flight_paths.specs.declared.positions.Position.{Position}
use Rattle.residual_keys.specs.ResidualText.{position_words, unit_text}
use Rattle.residual_table.specs.Keys.{Tables}

-- with what the line of a row of this position begins
abbrev pub beginning : Position → List ℕ
beginning a = codes "row " ++ (join_with_byte 32 (position_words a) ++ 32 ∷ [])

-- the texts of all that has a number
abbrev pub texts_of : Tables → RowTexts
texts_of t = record { beginnings = map beginning t.positions; units = map unit_text t.units }
