-- Departures by their fronts.
use Rattle.std.specs.Prelude.{◌≡◌, ◌≢◌, ◌⊎◌, ℕ, ◌+◌, Bool, cond, List, [], ◌∷◌, ◌++◌, slice_get, Option, Some, option_and_then}
use Rattle.certificate.specs.declared.parts.CertAnswer.{CertAnswer}
use Rattle.certificate.specs.declared.parts.CertRow.{CertRow}
use Rattle.certificate.specs.DepartureCheck.{BeginsWith, ComesAfter, Departs, LeadsFor}
use Rattle.certificate.specs.RowCheck.{IsRoot}
use Rattle.fare_law.specs.declared.flights.Flight.{Flight}
use Rattle.fare_law.specs.declared.moves.Move.{Move}
use Rattle.fare_law.specs.declared.names.Place.{Place}
use Rattle.fare_law.specs.declared.requests.Request.{Request}
use Rattle.fare_law.specs.declared.tickets.Component.{Component}
use Rattle.fare_law.specs.declared.tickets.Piece.{Piece}
use Rattle.fare_law.specs.Book.{Book}
use Rattle.fare_law.specs.Lists.{Each, IsIn}
use Rattle.fare_law.specs.Parts.{price_of}
use Rattle.flight_paths.specs.declared.positions.Position.{Position}
use Rattle.open_unit.specs.declared.units.OpenUnit.{OpenUnit}
use Rattle.residual_keys.specs.Residuals.{State, Moves, closes}
use Rattle.search_steps.specs.declared.least.LeastMove.{LeastMove}

-- each departure at this front comes after the last answer
abbrev pub FrontHolds : Book → Request → List CertRow → List CertAnswer → List Move → Type 0
FrontHolds b q rows answers front = (m : Move) (least : ℕ) → Departs b q rows answers front m least → ComesAfter q answers (front ++ m ∷ []) least

-- some departure at this front doesn't
pub record FrontFails (b : Book) (q : Request) (rows : List CertRow) (answers : List CertAnswer) (front : List Move) : Type 0 where
  pub move : Move
  pub least : ℕ
  pub departs : Departs b q rows answers front move least
  pub fails : ComesAfter q answers (front ++ move ∷ []) least → ⊥

-- each front of the answer, but that of no move, holds
abbrev pub AnswerHolds : Book → Request → List CertRow → List CertAnswer → CertAnswer → Type 0
AnswerHolds b q rows answers a = (front : List Move) → front ≢ [] → BeginsWith a front → FrontHolds b q rows answers front

-- some front of the answer, but that of no move, fails
pub record AnswerFails (b : Book) (q : Request) (rows : List CertRow) (answers : List CertAnswer) (a : CertAnswer) : Type 0 where
  pub front : List Move
  pub some : front ≢ []
  pub begins : BeginsWith a front
  pub fails : FrontFails b q rows answers front

-- the front leads from the root to this state at this price
abbrev pub LeadsTo : Book → Request → List Move → State → ℕ → Type 0
LeadsTo b q front there price = (root : State) × IsRoot b q root × LeadsFor b q root front there price

-- where the fare of a move is filed that goes from the first of these flights to the last, for one in reverse the other way round
abbrev pub from_of : Bool → Flight → Flight → Place
from_of reverse first last = cond reverse last.to first.from

abbrev pub to_of : Bool → Flight → Flight → Place
to_of reverse first last = cond reverse first.from last.to

-- a move's component, by its first flight and its last
abbrev pub component_of : Move → Flight → Flight → Component
component_of m first last = record { flights = m.flights; fare = record { carrier = m.carrier; from = from_of (closes m.role) first last; to = to_of (closes m.role) first last; basis = m.basis }; unit = 0 }

-- the flight of the number at this place of a move's
abbrev pub flight_of : Book → Move → ℕ → Option Flight
flight_of b m i = option_and_then (slice_get b.timetable.flights) (slice_get m.flights i)

-- this is what the move costs, where it is one of some residual
abbrev pub Priced : Book → Move → Option ℕ → Type 0
Priced b m price = (q : Request) (x : State) (fs : List Flight) (p : Piece) (next : Option Position) (us : List OpenUnit) → Moves b q x m fs p next us → price ≡ Some (price_of fs p)

-- the answer begins with this front and takes this move then
abbrev pub Takes : CertAnswer → List Move → Move → Type 0
Takes a front m = (rest : List Move) × (a.moves ≡ front ++ m ∷ rest)

-- some answer does
abbrev pub IsTaken : List CertAnswer → List Move → Move → Type 0
IsTaken answers front m = (a : CertAnswer) × IsIn a answers × Takes a front m

-- so many answers begin with this front
abbrev pub CountsBeginning : List Move → List CertAnswer → ℕ → Type 0
CountsBeginning front [] n = n ≡ 0
CountsBeginning front (a ∷ answers) n = (BeginsWith a front × (before : ℕ) × CountsBeginning front answers before × (n ≡ before + 1)) ⊎ ((BeginsWith a front → ⊥) × CountsBeginning front answers n)

-- each of these moves is taken
abbrev pub TakenByAny : {K : Type 0} → List CertAnswer → List Move → List (LeastMove K) → Type 0
TakenByAny answers front ms = Each (λ m. IsTaken answers front m.mv) ms

-- this is the first of the moves that isn't taken
pub record UntakenFirst {K : Type 0} (answers : List CertAnswer) (front : List Move) (ms : List (LeastMove K)) (m : LeastMove K) : Type 0 where
  pub before : List (LeastMove K)
  pub after : List (LeastMove K)
  pub whole : ms ≡ before ++ m ∷ after
  pub taken : TakenByAny answers front before
  pub untaken : IsTaken answers front m.mv → ⊥

-- some answer begins with this front
abbrev pub IsHad : List CertAnswer → List Move → Type 0
IsHad answers front = (a : CertAnswer) × IsIn a answers × BeginsWith a front
