-- What a move leaves, and the moves of a state as a list.
use Rattle.std.specs.Prelude.{◌≡◌, ◌↔◌, ℕ, Bool, List, [], Option, Some, None, IfNone, MatchBool}
use Rattle.fare_law.specs.declared.fares.FareKey.{FareKey}
use Rattle.fare_law.specs.declared.flights.Flight.{Flight}
use Rattle.fare_law.specs.declared.moves.Move.{Move}
use Rattle.fare_law.specs.declared.moves.Role.{Role}
use Rattle.fare_law.specs.declared.names.Place.{Place}
use Rattle.fare_law.specs.declared.requests.Request.{Request}
use Rattle.fare_law.specs.declared.tickets.Piece.{Piece}
use Rattle.fare_law.specs.declared.sheets.SheetRow.{SheetRow}
use Rattle.fare_law.specs.Book.{Book, live_fare, live_rule}
use Rattle.fare_law.specs.Lists.{EachPair, IsIn, OnFirst, OnLast, Less}
use Rattle.fare_law.specs.Codes.{move_code}
use Rattle.fare_law.specs.Parts.{price_of}
use Rattle.flight_paths.specs.declared.positions.Position.{Position}
use Rattle.open_unit.specs.declared.units.OpenUnit.{OpenUnit}
use Rattle.residual_keys.specs.declared.parts.TicketPart.{TicketPart}
use Rattle.residual_keys.specs.declared.residual.Chosen.{Chosen}
use Rattle.residual_keys.specs.declared.residual.Next.{Next}
use Rattle.residual_keys.specs.declared.residual.Next.TheVariants.{At, Done}
use Rattle.residual_keys.specs.Residuals.{State, Moves, PartAllows, UnitStep, begins, closes, part_with}

-- the one place is the beginning of these flights and the other their end, or for fares in reverse the other way round
abbrev pub MarketOver : Bool → List Flight → Place → Place → Type 0
MarketOver reverse fs from to = OnFirst (λ f. OnLast (λ z. MatchBool reverse ((from ≡ z.to) × (to ≡ f.from)) ((from ≡ f.from) × (to ≡ z.to))) fs) fs

-- The key of the fare that a move names on these flights: filed from their beginning to their end, or for the last of a unit from their end to their beginning.
pub record KeyOn (m : Move) (fs : List Flight) (key : FareKey) : Type 0 where
  pub carrier : key.carrier ≡ m.carrier
  pub basis : key.basis ≡ m.basis
  pub ends : MarketOver (closes m.role) fs key.from key.to

-- The row is the live fare of the key that a move names on these flights, with its live rule.
pub record IsLiveOn (b : Book) (m : Move) (fs : List Flight) (row : SheetRow) : Type 0 where
  pub key : KeyOn m fs row.fare.key
  pub fare : live_fare b row.fare.key ≡ Some row.fare
  pub rule : live_rule b row.fare.key.carrier row.fare.rule ≡ Some row.rule

-- where a search stands after a component that leads to a position, with these units open; none is the end of the journey
abbrev pub left_at : Option Position → List OpenUnit → TicketPart → Next
left_at None us part = Done
left_at (Some at) us part = At (record { at = at; units = us; part = part })

-- What a component leaves that leads to a position, in this role and slot.
pub record Leaves (r : State) (after : Option Position) (p : Piece) (role : Role) (slot : ℕ) (next : Next) : Type 0 where
  pub units : List OpenUnit
  pub step : UnitStep role slot r.units p units
  pub part : PartAllows (part_with r.part (begins role) p)
  pub done : IfNone after (units ≡ [])
  pub left : next ≡ left_at after units (part_with r.part (begins role) p)

-- A move of a state, with its price and what it leaves.
pub record IsChosen (b : Book) (q : Request) (r : State) (c : Chosen) : Type 0 where
  pub flights : List Flight
  pub piece : Piece
  pub after : Option Position
  pub units : List OpenUnit
  pub moves : Moves b q r c.mv flights piece after units
  pub costs : c.price ≡ price_of flights piece
  pub left : c.next ≡ left_at after units (part_with r.part (begins c.mv.role) piece)

-- A move of a state leaves this.
abbrev pub StepsTo : Book → Request → State → Move → Next → Type 0
StepsTo b q r m next = (price : ℕ) × IsChosen b q r (record { mv = m; price = price; next = next })

-- These are the moves of a state, each once, ascending by code.
pub record AreMoves (b : Book) (q : Request) (r : State) (chosen : List Chosen) : Type 0 where
  pub ascending : EachPair (λ c d. Less (move_code c.mv) (move_code d.mv)) chosen
  pub are : (c : Chosen) → IsIn c chosen ↔ IsChosen b q r c
