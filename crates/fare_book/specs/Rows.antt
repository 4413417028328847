-- Rows of one market, by carrier and basis.
use Rattle.std.specs.Prelude.{◌≡◌}
use Rattle.std.specs.Cmp.Lexicographic.{slice_cmp}
use Rattle.std.specs.Ordering.{nat_cmp, on, then_cmp}
use Rattle.std.specs.declared.cmp.Ordering.{Ordering}
use Rattle.fare_law.specs.declared.fares.FareKey.{FareKey}
use Rattle.fare_law.specs.declared.sheets.SheetRow.{SheetRow}

-- how two keys compare, by carrier and then by basis
abbrev pub key_order : FareKey → FareKey → Ordering
key_order = then_cmp (on (λ k. k.carrier.0) (slice_cmp nat_cmp)) (on (λ k. k.basis.0) (slice_cmp nat_cmp))

-- the row has the carrier and the basis of the key
abbrev pub HasName : FareKey → SheetRow → Type 0
HasName key row = (row.fare.key.carrier ≡ key.carrier) × (row.fare.key.basis ≡ key.basis)
