-- How the moves within a limit are made: fare by fare, role by role, group by group, path by path.
use Rattle.std.specs.Prelude.{◌≡◌, ◌↔◌, ℕ, ℤ, ◌+◌, ◌≤◌, ◌<◌, Bool, List, slice_get, All, Option, Some, IsBitSet}
use Rattle.cheap_moves.specs.declared.component.Component.{Component}
use Rattle.cheap_moves.specs.declared.component.Flown.{Flown}
use Rattle.cheap_moves.specs.declared.component.Onward.{Onward}
use Rattle.cheap_moves.specs.Within.{CountsWithin, IsWithin}
use Rattle.fare_ends.specs.declared.markets.Market.{Market}
use Rattle.fare_groups.specs.declared.group.FareGroup.{FareGroup}
use Rattle.fare_groups.specs.declared.group.GroupedFare.{GroupedFare}
use Rattle.fare_groups.specs.Grouping.{IsRowIn}
use Rattle.fare_groups.specs.Groups.{HasClass, Permits, extra_of}
use Rattle.fare_law.specs.declared.flights.Flight.{Flight}
use Rattle.fare_law.specs.declared.moves.Role.{Role}
use Rattle.fare_law.specs.declared.requests.Request.{Request}
use Rattle.fare_law.specs.declared.sheets.SheetRow.{SheetRow}
use Rattle.fare_law.specs.declared.tickets.Piece.{Piece}
use Rattle.fare_law.specs.Book.{Book}
use Rattle.fare_law.specs.Limits.{IsFlight}
use Rattle.fare_law.specs.Lists.{IsIn}
use Rattle.flight_paths.specs.declared.positions.Path.{Path}
use Rattle.open_unit.specs.Ranges.{PieceInRanges}
use Rattle.outlines.specs.ByGroups.{OverMarket}
use Rattle.residual_keys.specs.declared.residual.Chosen.{Chosen}
use Rattle.residual_keys.specs.Gathered.{AreLegs, IsChosenFiled, IsChosenOn, IsPathOf, IsReadOver}
use Rattle.residual_keys.specs.Residuals.{State}
use Rattle.residual_keys.specs.Steps.{Leaves}

-- a move of one of these
abbrev pub Of : {X : Type 0} → (X → Chosen → Type 0) → List X → Chosen → Type 0
Of {X} P xs c = (x : X) × IsIn x xs × P x c

-- A flown path of the residual, with the classes that are open in all of its legs.
pub record IsFlown (b : Book) (q : Request) (r : State) (flown : Flown) : Type 0 where
  pub path : IsPathOf b q r flown.way.path flown.way.flights
  pub legs : AreLegs b q flown.way.flights flown.way.legs
  pub classes : (class : ℕ) → class < 32 → IsBitSet flown.classes class ↔ HasClass class flown.way.legs
  pub limits : All IsFlight flown.way.flights

-- A flown path of the residual, over a market of the book that is filed this way.
pub record IsOver (b : Book) (q : Request) (r : State) (flown : Flown) (reverse : Bool) (m : Market) : Type 0 where
  pub over : OverMarket b q r.at flown.way.path flown.way.flights flown.way.legs flown.classes reverse m.sheet.value m.groups
  pub limits : All IsFlight flown.way.flights

-- the piece of a fare of this row over these flights
pub record IsPieceOver (sale : ℤ) (fs : List Flight) (row : SheetRow) (reverse : Bool) (p : Piece) : Type 0 where
  pub fare : p.fare ≡ row.fare
  pub reads : IsReadOver sale fs row reverse p

-- The components of a group's fares on a flown path: its rule permits the flights, and adds these charges.
pub record IsComponent (b : Book) (q : Request) (r : State) (k : Component) : Type 0 where
  pub over : IsOver b q r k.flown.now k.facts.reverse k.market.now
  pub within : IsIn k.group.now k.market.now.groups
  pub row : SheetRow
  pub row_of : IsRowIn k.market.now.sheet.value.rows k.group.now row
  pub facts : IsReadOver q.sale k.flown.now.way.flights row k.facts.reverse k.facts
  pub permits : Permits row.rule k.group.now.key.carrier k.flown.now.way.flights
  pub charges : k.charges ≡ extra_of row.rule k.flown.now.way.flights
  pub low : k.charges ≤ 35000000
  pub ranges : PieceInRanges k.facts

-- The move of a component with this fare, which goes on like this, within the limit.
pub record IsFareMove (k : Component) (limit : Option ℕ) (way : Onward) (f : GroupedFare) (c : Chosen) : Type 0 where
  pub row : SheetRow
  pub stands : slice_get k.market.now.sheet.value.rows f.place ≡ Some row
  pub open_class : IsBitSet k.flown.now.classes f.class
  pub move : c.mv ≡ record { flights = k.flown.now.way.path.flights; carrier = row.fare.key.carrier; basis = row.fare.key.basis; role = way.role; slot = way.slot }
  pub price : c.price ≡ f.share + k.charges
  pub next : c.next ≡ way.next
  pub within : IsWithin limit ((f.share + k.charges) + way.rest)

-- A move of a component in this role and slot, within the limit.
pub record IsRoleMove (r : State) (bound : State → Option ℕ) (limit : Option ℕ) (k : Component) (role : Role) (slot : ℕ) (c : Chosen) : Type 0 where
  pub fare : GroupedFare
  pub of : IsIn fare k.group.now.fares
  pub row : SheetRow
  pub stands : slice_get k.market.now.sheet.value.rows fare.place ≡ Some row
  pub open_class : IsBitSet k.flown.now.classes fare.class
  pub move : c.mv ≡ record { flights = k.flown.now.way.path.flights; carrier = row.fare.key.carrier; basis = row.fare.key.basis; role = role; slot = slot }
  pub price : c.price ≡ fare.share + k.charges
  pub leaves : Leaves r k.flown.now.way.path.after k.facts role slot c.next
  pub counts : CountsWithin bound limit c

-- in some role and slot
abbrev pub IsComponentMove : State → (State → Option ℕ) → Option ℕ → Component → Chosen → Type 0
IsComponentMove r bound limit k c = (role : Role) × (slot : ℕ) × IsRoleMove r bound limit k role slot c

-- A move on a flown path with a fare of a group, within the limit: its rule permits the flights and its class is open.
pub record IsGroupMove (q : Request) (r : State) (bound : State → Option ℕ) (limit : Option ℕ) (flown : Flown) (reverse : Bool) (m : Market) (g : FareGroup) (c : Chosen) : Type 0 where
  pub fare : GroupedFare
  pub of : IsIn fare g.fares
  pub row : SheetRow
  pub stands : slice_get m.sheet.value.rows fare.place ≡ Some row
  pub open_class : IsBitSet flown.classes fare.class
  pub permits : Permits row.rule g.key.carrier flown.way.flights
  pub piece : Piece
  pub piece_is : IsPieceOver q.sale flown.way.flights row reverse piece
  pub role : Role
  pub slot : ℕ
  pub move : c.mv ≡ record { flights = flown.way.path.flights; carrier = row.fare.key.carrier; basis = row.fare.key.basis; role = role; slot = slot }
  pub price : c.price ≡ fare.share + extra_of row.rule flown.way.flights
  pub leaves : Leaves r flown.way.path.after piece role slot c.next
  pub counts : CountsWithin bound limit c

-- a move on these flights with a fare that is filed forward, or in reverse, within the limit
abbrev pub IsWithinFiled : Book → Request → State → (State → Option ℕ) → Option ℕ → List ℕ → Bool → Chosen → Type 0
IsWithinFiled b q r bound limit ns reverse c = IsChosenFiled b q r ns reverse c × CountsWithin bound limit c

-- a move on a path's flights, within the limit
abbrev pub IsWithinOn : Book → Request → State → (State → Option ℕ) → Option ℕ → Path → Chosen → Type 0
IsWithinOn b q r bound limit path c = IsChosenOn b q r path.flights c × CountsWithin bound limit c
