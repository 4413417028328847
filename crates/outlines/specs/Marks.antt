-- Lists of a position by role, and of a position and an open unit: what a component is to every residual there, with its least price.
use Rattle.std.specs.Prelude.{◌≡◌, ◌⊎◌, ◌↔◌, ℕ, ℤ, ◌≤◌, ◌<◌, Bool, true, false, List, [], ◌∷◌, ◌++◌, length, set, remove, slice_get, Option, Some, None, IfNone, IsSome}
use Rattle.fare_law.specs.declared.names.Place.{Place}
use Rattle.fare_law.specs.declared.requests.Request.{Request}
use Rattle.fare_law.specs.declared.rules.CombineRule.{CombineRule}
use Rattle.fare_law.specs.declared.rules.EndOnEnd.{EndOnEnd}
use Rattle.fare_law.specs.declared.rules.EndOnEnd.TheVariants.{Free}
use Rattle.fare_law.specs.declared.rules.UnitKind.{UnitKind}
use Rattle.fare_law.specs.declared.tickets.Piece.{Piece}
use Rattle.fare_law.specs.Book.{Book}
use Rattle.fare_law.specs.Lists.{Each, IsIn}
use Rattle.open_unit.specs.declared.units.OpenUnit.{OpenUnit}
use Rattle.open_unit.specs.OpenUnits.{MayAlone, MayClose, MayGoOn, MayOpen, carrier_with, gone_on, opened}
use Rattle.outlines.specs.declared.marks.Listed.{Listed}
use Rattle.outlines.specs.declared.marks.Mark.{Mark}
use Rattle.outlines.specs.declared.outline.Entry.{Entry}
use Rattle.outlines.specs.declared.outline.Outcome.{Outcome}
use Rattle.outlines.specs.Outcomes.{AreOutcomes, HasRule, Tabled}
use Rattle.outlines.specs.Outlines.{piece_of}
use Rattle.residual_keys.specs.declared.parts.TicketPart.{TicketPart}
use Rattle.residual_keys.specs.declared.residual.Next.{Next}
use Rattle.residual_keys.specs.Residuals.{PartAllows, State, one_more, with_end}
use Rattle.residual_keys.specs.Steps.{left_at}

-- the piece that is written from an entry
abbrev pub written : Place → ℤ → Entry → Piece
written begin sale e = piece_of begin sale e.rule e.outline

-- what category 10 asks of the whole ticket
abbrev pub ends_of : Option CombineRule → EndOnEnd
ends_of None = Free
ends_of (Some c) = c.end_on_end

-- the mark of an entry that leaves this unit open
abbrev pub mark_of : Entry → Option OpenUnit → Mark
mark_of e unit = record { after = e.outline.after; unit = unit; carrier = e.outline.carrier; ends = ends_of e.rule.cat10 }

-- the mark of an entry's component that stands alone
abbrev pub IsAlone : Place → ℤ → Entry → Mark → Type 0
IsAlone begin sale e m = MayAlone (written begin sale e) × (m ≡ mark_of e None)

-- the mark of one that opens a unit, which the journey has to close
abbrev pub IsOpening : Place → ℤ → Entry → Mark → Type 0
IsOpening begin sale e m = (IsSome e.outline.after × MayOpen (written begin sale e)) × (m ≡ mark_of e (Some (opened (written begin sale e))))

-- the mark of one that goes on in this unit, which the journey has to close
abbrev pub GoesOnIn : OpenUnit → Piece → Entry → Mark → Type 0
GoesOnIn u p e m = (IsSome e.outline.after × MayGoOn u p) × (m ≡ mark_of e (Some (gone_on u p)))

-- the mark of one that closes this unit
abbrev pub ClosesIn : OpenUnit → Piece → Entry → Mark → Type 0
ClosesIn u p e m = ((kind : UnitKind) × MayClose u p kind) × (m ≡ mark_of e None)

-- the mark of one that goes on in this unit or closes it
abbrev pub IsOfUnit : Place → ℤ → OpenUnit → Entry → Mark → Type 0
IsOfUnit begin sale u e m = GoesOnIn u (written begin sale e) e m ⊎ ClosesIn u (written begin sale e) e m

-- Marks of a table's entries, each at least once, with the price of an entry that has it, and none of an entry that has it is below.
pub record IsList (Is : Entry → Mark → Type 0) (table : List Entry) (list : List Listed) : Type 0 where
  pub attained : Each (λ x. (e : Entry) × IsIn e table × Is e x.mark × (x.price ≡ e.price)) list
  pub covered : (e : Entry) → IsIn e table → (m : Mark) → Is e m → (x : Listed) × IsIn x list × (x.mark ≡ m) × (x.price ≤ e.price)

-- the lists of a residual: those of its position, and that of its position and each of its open units
pub record AreLists (q : Request) (r : State) (table : List Entry) (alone opens : List Listed) (of_unit : ℕ → List Listed) : Type 0 where
  pub alone_is : IsList (IsAlone r.at.place q.sale) table alone
  pub opens_is : IsList (IsOpening r.at.place q.sale) table opens
  pub units_are : (slot : ℕ) (u : OpenUnit) → slice_get r.units slot ≡ Some u → IsList (IsOfUnit r.at.place q.sale u) table (of_unit slot)

-- the ticket part with a mark
abbrev pub part_by : TicketPart → Bool → Mark → TicketPart
part_by t new m = record { units = one_more new t.units; ends = with_end m.ends t.ends; carrier = carrier_with t.carrier m.carrier }

-- What a mark leaves, with these open units: the ticket part allows it, and the journey ends with none open.
pub record MarkLeaves (r : State) (m : Mark) (new : Bool) (units : List OpenUnit) (next : Next) : Type 0 where
  pub part : PartAllows (part_by r.part new m)
  pub done : IfNone m.after (units ≡ [])
  pub left : next ≡ left_at m.after units (part_by r.part new m)

-- the open units after one of them went on, or was closed
abbrev pub units_by : List OpenUnit → ℕ → Option OpenUnit → List OpenUnit
units_by us slot None = remove us slot
units_by us slot (Some u) = set us slot u

-- an outcome that the list of components alone gives
pub record GivenAlone (r : State) (list : List Listed) (o : Outcome) : Type 0 where
  pub listed : Listed
  pub within : IsIn listed list
  pub leaves : MarkLeaves r listed.mark true r.units o.next
  pub price : o.price ≡ listed.price

-- one that the list of opening components gives, where there is room
pub record GivenOpening (r : State) (list : List Listed) (o : Outcome) : Type 0 where
  pub listed : Listed
  pub within : IsIn listed list
  pub room : length r.units < 2
  pub unit : OpenUnit
  pub opens : listed.mark.unit ≡ Some unit
  pub leaves : MarkLeaves r listed.mark true (r.units ++ unit ∷ []) o.next
  pub price : o.price ≡ listed.price

-- one that the list of an open unit gives
pub record GivenByUnit (r : State) (of_unit : ℕ → List Listed) (o : Outcome) : Type 0 where
  pub slot : ℕ
  pub unit : OpenUnit
  pub stands : slice_get r.units slot ≡ Some unit
  pub listed : Listed
  pub within : IsIn listed (of_unit slot)
  pub leaves : MarkLeaves r listed.mark false (units_by r.units slot listed.mark.unit) o.next
  pub price : o.price ≡ listed.price

abbrev pub IsGiven : State → List Listed → List Listed → (ℕ → List Listed) → Outcome → Type 0
IsGiven r alone opens of_unit o = GivenAlone r alone o ⊎ (GivenOpening r opens o ⊎ GivenByUnit r of_unit o)

-- What the lists of a residual give are its outcomes.
abbrev pub ListsAreOutcomes : Book → Request → State → Type 0
ListsAreOutcomes b q r = (table : List Entry) (alone opens : List Listed) (of_unit : ℕ → List Listed) (outcomes : List Outcome) → Each (HasRule b) table → Tabled b q r.at table → AreLists q r table alone opens of_unit
    → ((o : Outcome) → IsIn o outcomes ↔ IsGiven r alone opens of_unit o) → AreOutcomes b q r outcomes
