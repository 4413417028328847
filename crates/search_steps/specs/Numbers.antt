-- Marks, lists and outcomes by the numbers of positions and of open units.
use Rattle.std.specs.Prelude.{◌≡◌, ◌≢◌, ℕ, zero, suc, ◌≤◌, Bool, List, length, map, slice_get, slice_range, Option, Some, None}
use Rattle.std.specs.Borrow.{Bor}
use Rattle.fare_law.specs.declared.requests.Request.{Request}
use Rattle.fare_law.specs.Book.{Book}
use Rattle.fare_law.specs.Lists.{Each, IsIn, Matched}
use Rattle.graph_walk.specs.declared.outcome.Outcome.{Outcome}
use Rattle.graph_walk.specs.Steps.{LeadToLive}
use Rattle.open_unit.specs.declared.units.OpenUnit.{OpenUnit}
use Rattle.open_unit.specs.OpenUnits.{carrier_with}
use Rattle.outlines.specs.declared.marks.Listed.{Listed}
use Rattle.outlines.specs.declared.outline.Outcome.{Outcome as Tried}
use Rattle.outlines.specs.declared.marks.Mark.{Mark}
use Rattle.outlines.specs.declared.outline.Entry.{Entry}
use Rattle.outlines.specs.Marks.{IsAlone, IsList, IsOfUnit, IsOpening, mark_of}
use Rattle.outlines.specs.Outcomes.{Grows as Given}
use Rattle.residual_keys.specs.declared.parts.TicketPart.{TicketPart}
use Rattle.residual_keys.specs.declared.residual.Next.{Next}
use Rattle.residual_keys.specs.declared.residual.Next.TheVariants.{At, Done}
use Rattle.residual_keys.specs.Residuals.{State, one_more, with_end}
use Rattle.residual_table.specs.declared.key.ResidualKey.{ResidualKey}
use Rattle.residual_table.specs.Keys.{IsLive, IsSlot, StandsFor, Tables as Numbers, residual_at, units_of}
use Rattle.search_steps.specs.declared.numbered.PositionSteps.{PositionSteps}
use Rattle.search_steps.specs.declared.numbered.Step.{Step}
use Rattle.search_steps.specs.declared.numbered.StepLists.{StepLists}
use Rattle.search_steps.specs.declared.numbered.UnitSlot.{UnitSlot}
use Rattle.search_steps.specs.declared.numbered.UnitSteps.{UnitSteps}
use Rattle.search_steps.specs.declared.tables.PositionTable.{PositionTable}
use Rattle.search_steps.specs.Giving.{GivenBy, LeftBy}
use Rattle.search_steps.specs.Runs.{AreRuns}

-- The step is this mark with its price, by numbers.
pub record IsStep (t : Numbers) (x : Listed) (s : Step) : Type 0 where
  pub after : IsSlot t.positions s.after x.mark.after
  pub unit : IsSlot t.units s.unit x.mark.unit
  pub carrier : s.carrier ≡ x.mark.carrier
  pub ends : s.ends ≡ x.mark.ends
  pub price : s.price ≡ x.price

abbrev pub AreSteps : Numbers → List Listed → List Step → Type 0
AreSteps t xs steps = Matched (IsStep t) xs steps

-- the step is the mark of an entry that leaves no unit open, with its price, by numbers
abbrev pub IsBare : Numbers → Entry → Step → Type 0
IsBare t e s = IsStep t (record { mark = mark_of e None; price = e.price }) s

-- the steps are these marks, one for each entry
abbrev pub AreBare : Numbers → List Entry → List Step → Type 0
AreBare t es ss = Matched (IsBare t) es ss

-- The steps are a list of these marks of a table's entries, by numbers.
pub record AreStepsOf (t : Numbers) (Is : Entry → Mark → Type 0) (table : List Entry) (ss : List Step) : Type 0 where
  pub list : List Listed
  pub is : IsList Is table list
  pub steps : AreSteps t list ss

-- The steps are marks of a list by numbers, and each mark of it is among them at no higher price.
pub record HasSteps (t : Numbers) (xs : List Listed) (ss : List Step) : Type 0 where
  pub marks : List Listed
  pub part : Each (λ x. IsIn x xs) marks
  pub covered : (x : Listed) → IsIn x xs → (y : Listed) × IsIn y marks × (y.mark ≡ x.mark) × (y.price ≤ x.price)
  pub steps : AreSteps t marks ss

-- an outcome by numbers, as one of residuals
abbrev pub next_at : Numbers → Option ResidualKey → Next
next_at t None = Done
next_at t (Some k) = At (residual_at t k)

abbrev pub tried_of : Numbers → Outcome ResidualKey → Tried
tried_of t o = record { next = next_at t o.next; price = o.price }

abbrev pub tried_in : Numbers → List (Outcome ResidualKey) → List Tried
tried_in t os = map (tried_of t) os

-- the ticket part with a step, whose component begins a unit or not
abbrev pub part_after : TicketPart → Bool → Step → TicketPart
part_after p new s = record { units = one_more new p.units; ends = with_end s.ends p.ends; carrier = carrier_with p.carrier s.carrier }

-- the key that a slot of a position makes with these slots of open units; 0 is the end of the journey
abbrev pub key_after : ℕ → ℕ → ℕ → TicketPart → Option ResidualKey
key_after zero first second p = None
key_after (suc n) first second p = Some (record { position = n; first = first; second = second; part = p })

-- To a list were added exactly the outcomes that meet this, and keys that stand for residuals.
pub record Adds (t : Numbers) (P : Tried → Type 0) (old new : List (Outcome ResidualKey)) : Type 0 where
  pub given : Given P (tried_in t old) (tried_in t new)
  pub live : LeadToLive (IsLive t) old → LeadToLive (IsLive t) new

-- With whatever numbers: what the mark of a step leaves was added, with open units that have these slots.
abbrev pub AddsLeft : ResidualKey → Bool → ℕ → ℕ → Step → List (Outcome ResidualKey) → List (Outcome ResidualKey) → Type 0
AddsLeft k new first second s old os =
    (t : Numbers) (r : State) (x : Listed) (us : List OpenUnit) → StandsFor t k r → IsStep t x s → units_of t.units first second ≡ Some us → Adds t (LeftBy r new us x) old os

-- what the mark of one step gives a residual was added
abbrev pub AddsOne : (State → Listed → Tried → Type 0) → ResidualKey → Step → List (Outcome ResidualKey) → List (Outcome ResidualKey) → Type 0
AddsOne P k s old new = (t : Numbers) (r : State) (x : Listed) → StandsFor t k r → IsStep t x s → Adds t (P r x) old new

-- what the marks of steps give it was added
abbrev pub AddsAll : (State → Listed → Tried → Type 0) → ResidualKey → List Step → List (Outcome ResidualKey) → List (Outcome ResidualKey) → Type 0
AddsAll P k steps old new = (t : Numbers) (r : State) (xs : List Listed) → StandsFor t k r → AreSteps t xs steps → Adds t (GivenBy (P r) xs) old new

-- These are the lists of the table that stands at its place, where its components stand alone and where they open a unit, and what they are without a unit, by numbers.
pub record ArePositionSteps (q : Request) (t : Numbers) (ts : List PositionTable) (s : PositionSteps) : Type 0 where
  pub table : PositionTable
  pub stands : slice_get ts s.place ≡ Some table
  pub at : slice_get t.positions s.position ≡ Some table.at
  pub alone : AreStepsOf t (IsAlone table.at.place q.sale) table.entries s.alone.items
  pub opening : AreStepsOf t (IsOpening table.at.place q.sale) table.entries s.opening.items
  pub bare : AreBare t table.entries s.bare.items
  pub runs : AreRuns table.entries s.bare.items s.runs.items

-- These are the list of the open unit of a slot, from the table that stands at a place, by numbers.
pub record IsUnitList (q : Request) (t : Numbers) (ts : List PositionTable) (k : UnitSlot) (ss : List Step) : Type 0 where
  pub table : PositionTable
  pub stands : slice_get ts k.place ≡ Some table
  pub unit : OpenUnit
  pub slot : IsSlot t.units k.slot (Some unit)
  pub steps : AreStepsOf t (IsOfUnit table.at.place q.sale unit) table.entries ss

-- the steps of an open unit stand among those of all
abbrev pub StandsIn : List Step → UnitSteps → Type 0
StandsIn all s = (s.begin ≤ s.end) × (s.end ≤ length all)

-- Among the steps of all open units stands the list of this one.
pub record AreUnitSteps (q : Request) (t : Numbers) (ts : List PositionTable) (all : List Step) (s : UnitSteps) : Type 0 where
  pub within : StandsIn all s
  pub list : IsUnitList q t ts (record { place = s.place; slot = s.slot }) (slice_range all s.begin s.end)

-- the lists by numbers are those of the tables
pub record AreStepLists (q : Request) (ts : List PositionTable) (l : StepLists) : Type 0 where
  pub positions : Each (ArePositionSteps q l.numbers ts) l.positions.items
  pub units : Each (AreUnitSteps q l.numbers ts l.unit_steps.items) l.units.items

-- the lists of a position stand at this place
pub record StepsAt (ss : List PositionSteps) (position n : ℕ) : Type 0 where
  pub steps : PositionSteps
  pub stands : slice_get ss n ≡ Some steps
  pub of_position : steps.position ≡ position

-- the lists of a position whose table stands at a place stand at this place
abbrev pub ListsAt : List PositionSteps → ℕ → ℕ → Type 0
ListsAt ss n place = (s : PositionSteps) × (slice_get ss n ≡ Some s) × (s.place ≡ place)

-- The list of an open unit, from the table at a place, stands at this place.
pub record UnitStandsAt (us : List UnitSteps) (place slot n : ℕ) : Type 0 where
  pub steps : UnitSteps
  pub stands : slice_get us n ≡ Some steps
  pub of_place : steps.place ≡ place
  pub of_slot : steps.slot ≡ slot
  pub is_open : slot ≢ 0

-- the same where a unit is open; where none is, none
abbrev pub UnitStepsAt : List UnitSteps → ℕ → ℕ → Option ℕ → Type 0
UnitStepsAt us place slot None = slot ≡ 0
UnitStepsAt us place slot (Some n) = UnitStandsAt us place slot n

-- a book and a request, with the numbers of residuals
pub record Numbered : Type 0 where
  pub book : Bor Book
  pub request : Bor Request
  pub numbers : Numbers

-- the state has a key
abbrev pub HasKey : (State → Option ResidualKey) → State → Type 0
HasKey find x = (k : ResidualKey) × (find x ≡ Some k)
