-- Rows that are read one after another, by numbers that are given on the way.
use Rattle.std.proofs.Common.{◌≡◌, ◌∙◌, List, [], ◌∷◌, ◌++◌, length, ap}
use Rattle.std.proofs.lemmas.List.{length-map, map-append}
use Rattle.certificate.specs.declared.numbered.NumberedRow.{NumberedRow}
use Rattle.certificate.specs.NumberedRows.{AreLive, key_of, row_of, rows_of}
use Rattle.certificate.proofs.StandingRows.{one_live, same_rows, still_live}
use Rattle.residual_table.specs.Keys.{Grows, IsLive, Tables}
use Rattle.residual_table.proofs.KeyFacts.{stays}

pub as_many : (t : Tables) (rows : List NumberedRow) → length (rows_of t rows) ≡ length rows
as_many t rows = length-map rows (row_of t)

module _ (old new : Tables) (g : Grows old new) (rows : List NumberedRow) (live : AreLive old rows) (row : NumberedRow) where
  pub live_more : IsLive new (key_of row) → AreLive new (rows ++ row ∷ [])
  live_more l = one_live new rows row (still_live old new (stays old new g) rows live) l

  pub rows_more : rows_of new (rows ++ row ∷ []) ≡ rows_of old rows ++ row_of new row ∷ []
  rows_more = map-append (row_of new) rows (row ∷ []) ∙ ap (λ xs. xs ++ row_of new row ∷ []) (same_rows old new (stays old new g) rows live)
