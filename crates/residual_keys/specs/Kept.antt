-- What the type of residuals keeps.
use Rattle.std.specs.Prelude.{◌≡◌, ◌≤◌, List, [], ◌∷◌, length, Option, Some, None, IfSome}
use Rattle.fare_law.specs.Lists.{Each}
use Rattle.open_unit.specs.declared.units.OpenUnit.{OpenUnit}
use Rattle.open_unit.specs.Ranges.{UnitInRanges}
use Rattle.residual_keys.specs.declared.parts.TicketPart.{TicketPart}
use Rattle.residual_keys.specs.Residuals.{State}

-- the facts of a ticket part
pub record PartKept (t : TicketPart) : Type 0 where
  pub units : t.units ≤ 2
  pub ends : t.ends ≤ 3

-- the open units of two places, in order
abbrev pub open_units : Option OpenUnit → Option OpenUnit → List OpenUnit
open_units None second = []
open_units (Some u) None = u ∷ []
open_units (Some u) (Some v) = u ∷ v ∷ []

-- the second place is taken only where the first one is
abbrev pub InTurn : Option OpenUnit → Option OpenUnit → Type 0
InTurn first second = first ≡ None → second ≡ None

-- These parts make a residual.
pub record AreKept (unit1 unit2 : Option OpenUnit) (t : TicketPart) : Type 0 where
  pub turn : InTurn unit1 unit2
  pub first : IfSome unit1 UnitInRanges
  pub second : IfSome unit2 UnitInRanges
  pub part : PartKept t

-- A state is one of a residual: at most two units are open, and the facts hold of each part.
pub record IsResidual (x : State) : Type 0 where
  pub few : length x.units ≤ 2
  pub units : Each UnitInRanges x.units
  pub part : PartKept x.part
