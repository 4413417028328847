-- Units that the table of units has no row for.
use Rattle.std.specs.Prelude.{List}
use Rattle.fare_law.specs.declared.rules.UnitKind.{UnitKind}
use Rattle.fare_law.specs.declared.tickets.Piece.{Piece}
use Rattle.fare_law.specs.Units.{IsUnit}

-- these components, in order, are a unit of no kind
abbrev pub HasNoKind : List Piece → Type 0
HasNoKind ps = (kind : UnitKind) → IsUnit kind ps → ⊥
