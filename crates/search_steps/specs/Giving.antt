-- What the marks of lists give of a residual.
use Rattle.std.specs.Prelude.{◌≡◌, ℕ, ◌<◌, List, [], ◌∷◌, ◌++◌, Bool, true, false, length, slice_get, Some}
use Rattle.fare_law.specs.declared.requests.Request.{Request}
use Rattle.fare_law.specs.Lists.{IsIn}
use Rattle.open_unit.specs.declared.units.OpenUnit.{OpenUnit}
use Rattle.outlines.specs.declared.marks.Listed.{Listed}
use Rattle.outlines.specs.declared.outline.Outcome.{Outcome as Tried}
use Rattle.outlines.specs.Marks.{IsList, IsOfUnit, MarkLeaves, units_by}
use Rattle.outlines.specs.Outcomes.{Grows}
use Rattle.residual_keys.specs.Residuals.{State}
use Rattle.search_steps.specs.declared.tables.PositionTable.{PositionTable}

-- what a mark leaves with these open units, at its price
pub record LeftBy (r : State) (new : Bool) (units : List OpenUnit) (x : Listed) (o : Tried) : Type 0 where
  pub leaves : MarkLeaves r x.mark new units o.next
  pub price : o.price ≡ x.price

-- what it leaves where it opens a unit, where there is room
pub record OpenedBy (r : State) (x : Listed) (o : Tried) : Type 0 where
  pub room : length r.units < 2
  pub unit : OpenUnit
  pub opens : x.mark.unit ≡ Some unit
  pub left : LeftBy r true (r.units ++ unit ∷ []) x o

-- what it leaves where it goes on in the open unit of a slot, or closes it
pub record UnitBy (r : State) (slot : ℕ) (x : Listed) (o : Tried) : Type 0 where
  pub unit : OpenUnit
  pub stands : slice_get r.units slot ≡ Some unit
  pub left : LeftBy r false (units_by r.units slot x.mark.unit) x o

-- what some mark of a list gives
abbrev pub GivenBy : (Listed → Tried → Type 0) → List Listed → Tried → Type 0
GivenBy P list o = (x : Listed) × IsIn x list × P x o

-- What the list of the open unit in a slot gives, from the table at a place, was added.
pub record UnitGiven (q : Request) (ts : List PositionTable) (place : ℕ) (r : State) (slot : ℕ) (old new : List Tried) : Type 0 where
  pub list : List Listed
  pub is : (u : OpenUnit) → slice_get r.units slot ≡ Some u → (t : PositionTable) → slice_get ts place ≡ Some t → IsList (IsOfUnit t.at.place q.sale u) t.entries list
  pub grows : Grows (GivenBy (UnitBy r slot) list) old new
