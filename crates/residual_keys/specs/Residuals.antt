-- Residuals, moves and runs.
use Rattle.std.specs.Prelude.{◌≡◌, ℕ, Bool, true, false, ◌==◌, nat_le, ◌+◌, ◌%◌, ◌≤◌, ◌<◌, List, [], ◌∷◌, ◌++◌, length, set, remove, slice_get, Option, Some, None, IfNone, cond}
use Rattle.fare_law.specs.declared.rules.CombineRule.{CombineRule}
use Rattle.fare_law.specs.declared.rules.EndOnEnd.{EndOnEnd}
use Rattle.fare_law.specs.declared.rules.EndOnEnd.TheVariants.{Free, SameCarrier, Never}
use Rattle.fare_law.specs.declared.flights.Flight.{Flight}
use Rattle.fare_law.specs.declared.tickets.Piece.{Piece}
use Rattle.fare_law.specs.declared.requests.Request.{Request}
use Rattle.fare_law.specs.declared.rules.UnitKind.{UnitKind}
use Rattle.fare_law.specs.Book.{Book}
use Rattle.fare_law.specs.Parts.{StandsFor, ComponentLawful, price_of}
use Rattle.open_unit.specs.declared.marks.CarrierMark.TheVariants.{NotYet}
use Rattle.fare_law.specs.declared.moves.Move.{Move}
use Rattle.open_unit.specs.declared.units.OpenUnit.{OpenUnit}
use Rattle.flight_paths.specs.declared.positions.Position.{Position}
use Rattle.fare_law.specs.declared.moves.Role.{Role}
use Rattle.fare_law.specs.declared.moves.Role.TheVariants.{Alone, Opens, GoesOn, Closes}
use Rattle.residual_keys.specs.declared.parts.TicketPart.{TicketPart}
use Rattle.open_unit.specs.OpenUnits.{carrier_with, OneCarrierMark, MayAlone, MayOpen, opened, MayGoOn, gone_on, MayClose}
use Rattle.flight_paths.specs.Positions.{IsPath, before_slice}
pub use Rattle.ticket_order.specs.Tickets.{begins}

-- what the rest of a search depends on
pub record State : Type 0 where
  pub at : Position
  pub units : List OpenUnit
  pub part : TicketPart

abbrev pub with_end : EndOnEnd → ℕ → ℕ
with_end Free ends = ends
with_end SameCarrier ends = cond (ends % 2 == 1) ends (ends + 1)
with_end Never ends = cond (nat_le 2 ends) ends (ends + 2)

abbrev pub ends_with : Option CombineRule → ℕ → ℕ
ends_with None ends = ends
ends_with (Some c) ends = with_end c.end_on_end ends

-- whether a component in this role has a fare that is filed from its end to its beginning
abbrev pub closes : Role → Bool
closes Alone = false
closes Opens = false
closes GoesOn = false
closes Closes = true

-- 0, 1, or 2 for two and more
abbrev pub one_more : Bool → ℕ → ℕ
one_more true units = cond (units == 0) 1 2
one_more false units = units

abbrev pub part_with : TicketPart → Bool → Piece → TicketPart
part_with t new p = record { units = one_more new t.units; ends = ends_with p.rule.cat10 t.ends; carrier = carrier_with t.carrier p.fare.key.carrier }

abbrev pub PartAllows : TicketPart → Type 0
PartAllows t = (t.ends % 2 ≡ 1 → OneCarrierMark t.carrier) × (2 ≤ t.ends → t.units ≡ 1)

-- what a component with this role and slot does to the open units
abbrev pub UnitStep : Role → ℕ → List OpenUnit → Piece → List OpenUnit → Type 0
UnitStep Alone slot us p us' = (slot ≡ 0) × MayAlone p × (us' ≡ us)
UnitStep Opens slot us p us' = (slot ≡ 0) × MayOpen p × (length us < 2) × (us' ≡ us ++ opened p ∷ [])
UnitStep GoesOn slot us p us' = (u : OpenUnit) × (slice_get us slot ≡ Some u) × MayGoOn u p × (us' ≡ set us slot (gone_on u p))
UnitStep Closes slot us p us' = (u : OpenUnit) × (slice_get us slot ≡ Some u) × ((kind : UnitKind) × MayClose u p kind) × (us' ≡ remove us slot)

-- A move of a state: its flights, what they are to the fare, and what it leaves: a position and the open units, or the end of the journey, where no unit is open.
pub record Moves (b : Book) (q : Request) (r : State) (m : Move) (fs : List Flight) (p : Piece) (next : Option Position) (us : List OpenUnit) : Type 0 where
  pub path : IsPath b q.slices r.at m.flights fs next
  pub stands : StandsFor b q.sale p.fare.key fs p
  pub carrier : m.carrier ≡ p.fare.key.carrier
  pub basis : m.basis ≡ p.fare.key.basis
  pub lawful : ComponentLawful b q.party fs p
  pub units : UnitStep m.role m.slot r.units p us
  pub part : PartAllows (part_with r.part (begins m.role) p)
  pub done : IfNone next (us ≡ [])

-- A run: each is a move of what the one before left, and the last alone ends the journey, with no unit open.
abbrev pub Run : Book → Request → State → List Move → ℕ → Type 0
Run b q r [] price = ⊥
Run b q r (m ∷ []) price =
    (fs : List Flight) × (p : Piece) × Moves b q r m fs p None [] × (price ≡ price_of fs p)
Run b q r (m ∷ n ∷ ms) price =
    (fs : List Flight) × (p : Piece) × (at : Position) × (us : List OpenUnit) × (rest : ℕ)
    × Moves b q r m fs p (Some at) us
    × Run b q (record { at = at; units = us; part = part_with r.part (begins m.role) p }) (n ∷ ms) rest
    × (price ≡ price_of fs p + rest)

abbrev pub no_part : TicketPart
no_part = record { units = 0; ends = 0; carrier = NotYet }

-- A run from the root.
abbrev pub RunFromRoot : Book → Request → List Move → ℕ → Type 0
RunFromRoot b q ms price = (at : Position) × (before_slice b 0 (slice_get q.slices 0) None ≡ Some at) × Run b q (record { at = at; units = []; part = no_part }) ms price

-- these moves lead from one state to another
abbrev pub LeadsFrom : Book → Request → State → List Move → State → Type 0
LeadsFrom b q r [] x = x ≡ r
LeadsFrom b q r (m ∷ ms) x =
    (fs : List Flight) × (p : Piece) × (at : Position) × (us : List OpenUnit) × Moves b q r m fs p (Some at) us
    × LeadsFrom b q (record { at = at; units = us; part = part_with r.part (begins m.role) p }) ms x

-- these moves lead from the root to a state
abbrev pub RootLeadsTo : Book → Request → List Move → State → Type 0
RootLeadsTo b q ms x = (at : Position) × (before_slice b 0 (slice_get q.slices 0) None ≡ Some at) × LeadsFrom b q (record { at = at; units = []; part = no_part }) ms x
