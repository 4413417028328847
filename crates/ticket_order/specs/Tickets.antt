-- The labels of components, and the ticket of moves over the flights of a schedule.
use Rattle.std.specs.Prelude.{◌≡◌, ℕ, ◌≤◌, Bool, true, false, List, [], ◌∷◌, ◌++◌, length, map, slice_get, Some}
use Rattle.fare_law.specs.declared.flights.Flight.{Flight}
use Rattle.fare_law.specs.declared.moves.Move.{Move}
use Rattle.fare_law.specs.declared.moves.Role.{Role}
use Rattle.fare_law.specs.declared.moves.Role.TheVariants.{Alone, Opens, GoesOn, Closes}
use Rattle.fare_law.specs.declared.names.Place.{Place}
use Rattle.fare_law.specs.declared.tickets.Component.{Component}
use Rattle.fare_law.specs.declared.tickets.Ticket.{Ticket}
use Rattle.fare_law.specs.Lawful.{Numbered}
use Rattle.fare_law.specs.Lists.{Matched, OnFirst, OnLast}
use Rattle.fare_law.specs.Moves.{moves_of, role_of, slot_number}
use Rattle.fare_law.specs.declared.limits.TheConstants.{MOST_COMPONENTS}

-- the labels of the components' units
abbrev pub labels : List Component → List ℕ
labels components = map (λ c. c.unit) components

-- whether a role begins a unit
abbrev pub begins : Role → Bool
begins Alone = true
begins Opens = true
begins GoesOn = false
begins Closes = false

-- whether the unit stays open after a role
abbrev pub stays_open : Role → Bool
stays_open Alone = false
stays_open Opens = true
stays_open GoesOn = true
stays_open Closes = false

-- after labels before, these labels give the moves their roles and slots
abbrev pub AreLabels : List ℕ → List ℕ → List Move → Type 0
AreLabels before [] [] = Unit {0}
AreLabels before [] (m ∷ ms) = ⊥
AreLabels before (l ∷ ls) [] = ⊥
AreLabels before (l ∷ ls) (m ∷ ms) = (m.role ≡ role_of before l ls) × (m.slot ≡ slot_number before l ls) × AreLabels (before ++ l ∷ []) ls ms

-- these numbers are of flights that begin and end at these places
abbrev pub LeadFrom : List Flight → List ℕ → Place → Place → Type 0
LeadFrom flights numbers begin end =
    (fs : List Flight) × Matched (λ n f. slice_get flights n ≡ Some f) numbers fs × OnFirst (λ f. OnLast (λ g. (begin ≡ f.from) × (end ≡ g.to)) fs) fs

-- where a fare is filed over a component with this beginning and this end: for the one that closes a unit the other way round
abbrev pub market_of : Role → Place → Place → Place × Place
market_of Alone begin end = (begin, end)
market_of Opens begin end = (begin, end)
market_of GoesOn begin end = (begin, end)
market_of Closes begin end = (end, begin)

-- the fare is filed over these flights
abbrev pub FiledOver : List Flight → Role → Component → Type 0
FiledOver flights role c = (begin : Place) × (end : Place) × LeadFrom flights c.flights begin end × ((c.fare.from, c.fare.to) ≡ market_of role begin end)

-- the component is that of the move, but for its unit
pub record IsComponent (flights : List Flight) (m : Move) (c : Component) : Type 0 where
  pub flights_are : c.flights ≡ m.flights
  pub carrier : c.fare.carrier ≡ m.carrier
  pub basis : c.fare.basis ≡ m.basis
  pub filed : FiledOver flights m.role c

-- The ticket has these moves, its labels are numbered by first appearance, and each fare is filed over its flights.
pub record TicketOfMoves (flights : List Flight) (moves : List Move) (t : Ticket) : Type 0 where
  pub few : length t.components ≤ MOST_COMPONENTS
  pub numbered : Numbered 0 (labels t.components)
  pub moves_are : moves_of t ≡ moves
  pub filed : Matched (λ m c. FiledOver flights m.role c) moves t.components
