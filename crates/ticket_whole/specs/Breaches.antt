-- The breaches of a ticket: each is a demand of the law that the ticket, or one of its components, doesn't meet.
use Rattle.std.specs.Prelude.{◌≡◌, ◌≢◌, ◌⊎◌, ◌++◌, ℕ, ℤ, suc, true, ◌≤◌, ◌<◌, List, [], ◌∷◌, length, max, map, flat_map, None, IsSome, IfSome, Any}
use Rattle.fare_law.specs.declared.flights.Flight.{Flight}
use Rattle.fare_law.specs.declared.requests.Request.{Request}
use Rattle.fare_law.specs.declared.rules.UnitKind.{UnitKind}
use Rattle.fare_law.specs.declared.rules.UnitKind.TheVariants.{OneWay}
use Rattle.fare_law.specs.declared.sheets.SheetRow.{SheetRow}
use Rattle.fare_law.specs.declared.tickets.Component.{Component}
use Rattle.fare_law.specs.declared.tickets.Ticket.{Ticket}
use Rattle.fare_law.specs.Book.{Book}
use Rattle.fare_law.specs.Journey.{Joins, calls}
use Rattle.fare_law.specs.Offers.{FiledBetween}
use Rattle.fare_law.specs.Lawful.{comes_in, unit_of, EndOnEndHolds, AtMostTwoStraddle}
use Rattle.fare_law.specs.Parts.{Part, Seated, DayTimeHolds, FlightsHold, StopoversHold, TransfersHold}
use Rattle.fare_law.specs.Lists.{Each, EachPair, OnFirst, OnLast, AllDifferent}
use Rattle.fare_law.specs.Units.{IsUnit, MayStand, SeasonHolds, AdvanceHolds, TravelHolds, EndsBy, MinStayHolds, MaxStayHolds, KindHolds, PartnersHold}
use Rattle.fare_law.specs.declared.limits.TheConstants.{MOST_FLIGHTS_OF_A_COMPONENT}
use Rattle.ticket_whole.specs.declared.breach.Breach.{Breach}
use Rattle.ticket_whole.specs.declared.demand.ComponentDemand.{ComponentDemand}
use Rattle.ticket_whole.specs.declared.demand.ComponentDemand.TheVariants.{KnownFlights, FlightCount, NoGap, PlacesOnce, LiveFare, FareEnds, Seats, DayTime, Flights, Stopovers, Transfers}
use Rattle.ticket_whole.specs.declared.demand.JourneyDemand.{JourneyDemand}
use Rattle.ticket_whole.specs.declared.demand.JourneyDemand.TheVariants.{Slices, Length, Places, Connections, Window}
use Rattle.ticket_whole.specs.declared.demand.Demand.{Demand}
use Rattle.ticket_whole.specs.declared.demand.Demand.TheVariants.{HasComponent, OfComponent, OfJourney, Labels, OfUnit, EndOnEnd, Straddling}
use Rattle.ticket_whole.specs.declared.demand.UnitDemand.{UnitDemand}
use Rattle.ticket_whole.specs.declared.demand.UnitDemand.TheVariants.{Shape, FareKind, FirstDay, TravelDates, Stay, Combination}
use Rattle.ticket_whole.specs.Cuts.{CutsMeet}
use Rattle.ticket_whole.specs.Known.{IsUnknown, known_flights, live_row, ends_of, part_of, parts_of}

-- the greatest of these labels, 0 where there is none
abbrev pub greatest : List ℕ → ℕ
greatest [] = 0
greatest (l ∷ ls) = max l (greatest ls)

-- the label is one of those before it, or one more than the greatest of them
abbrev pub LabelStands : List ℕ → ℕ → Type 0
LabelStands before l = (comes_in l before ≡ true) ⊎ (l ≡ suc (greatest before))

-- what holds of the row and the known flights of a component, where its fare is live
abbrev pub OnRow : Book → Component → (SheetRow → List Flight → Type 0) → Type 0
OnRow b c P = IfSome (live_row b c.fare) (λ row. P row (known_flights b c.flights))

-- what holds of a part of the ticket in its unit, if that has a kind: by the kind and by the unit's first day, day of return and last day
abbrev pub InUnit : List Part → Part → (UnitKind → ℤ → ℤ → ℤ → Type 0) → Type 0
InUnit parts part P =
    (kind : UnitKind) → IsUnit kind (unit_of part.unit parts)
    → OnFirst (λ a. OnLast (λ z. P kind a.first_day z.first_day z.last_day) (unit_of part.unit parts)) (unit_of part.unit parts)

-- What a component meets by itself.
abbrev pub ComponentMeets : Book → ℕ → ComponentDemand → Component → Type 0
ComponentMeets b party KnownFlights c = Any (IsUnknown b) c.flights → ⊥
ComponentMeets b party FlightCount c = (1 ≤ length c.flights) × (length c.flights ≤ MOST_FLIGHTS_OF_A_COMPONENT)
ComponentMeets b party NoGap c = EachPair Joins (known_flights b c.flights)
ComponentMeets b party PlacesOnce c = IfSome (ends_of (known_flights b c.flights)) (λ e. AllDifferent (calls e.0.from (known_flights b c.flights)))
ComponentMeets b party LiveFare c = IsSome (live_row b c.fare)
ComponentMeets b party FareEnds c = OnRow b c (λ row fs. IfSome (ends_of fs) (λ e. FiledBetween row.fare.key e.0.from e.1.to))
ComponentMeets b party Seats c = OnRow b c (λ row fs. Seated b party row.fare.class fs)
ComponentMeets b party DayTime c = OnRow b c (λ row fs. IfSome (ends_of fs) (λ e. DayTimeHolds row.rule e.0))
ComponentMeets b party Flights c = OnRow b c (λ row fs. FlightsHold row.rule fs)
ComponentMeets b party Stopovers c = OnRow b c (λ row fs. StopoversHold row.rule fs)
ComponentMeets b party Transfers c = OnRow b c (λ row fs. TransfersHold row.rule row.fare.key.carrier fs)

-- What a part of the ticket meets in its unit.
abbrev pub PartMeets : List Part → UnitDemand → Part → Type 0
PartMeets parts Shape part = (kind : UnitKind) × IsUnit kind (unit_of part.unit parts)
PartMeets parts FareKind part = InUnit parts part (λ kind first back last. MayStand part.piece.fare.kind kind)
PartMeets parts FirstDay part = InUnit parts part (λ kind first back last. SeasonHolds part.piece.rule first × AdvanceHolds part.piece.rule part.piece.sale first)
PartMeets parts TravelDates part = InUnit parts part (λ kind first back last. TravelHolds part.piece.rule first × EndsBy part.piece.rule last)
PartMeets parts Stay part = InUnit parts part (λ kind first back last. kind ≢ OneWay → MinStayHolds part.piece.rule first back × MaxStayHolds part.piece.rule first back)
PartMeets parts Combination part = InUnit parts part (λ kind first back last. KindHolds part.piece.rule kind × PartnersHold (unit_of part.unit parts) part.piece)

-- the known flights of all components, in order
abbrev pub flights_of : Book → List Component → List Flight
flights_of b cs = flat_map (λ c. known_flights b c.flights) cs

-- What the ticket meets as a whole.
abbrev pub TicketMeets : Book → Request → Ticket → Demand → Type 0
TicketMeets b q t HasComponent = t.components ≢ []
TicketMeets b q t (OfComponent d) = Unit {0}
TicketMeets b q t (OfJourney d) = CutsMeet b d None q.slices (flights_of b t.components)
TicketMeets b q t Labels = Unit {0}
TicketMeets b q t (OfUnit d) = Unit {0}
TicketMeets b q t EndOnEnd = Each (λ part. EndOnEndHolds (parts_of b q.sale t.components) part.piece) (parts_of b q.sale t.components)
TicketMeets b q t Straddling = AtMostTwoStraddle (map (λ c. c.unit) t.components)

-- What a component of the ticket, which stands after these, meets.
abbrev pub StandingMeets : Book → Request → Ticket → Demand → List Component → Component → Type 0
StandingMeets b q t HasComponent before c = Unit {0}
StandingMeets b q t (OfComponent d) before c = ComponentMeets b q.party d c
StandingMeets b q t (OfJourney d) before c = Unit {0}
StandingMeets b q t Labels before c = LabelStands (map (λ d. d.unit) before) c.unit
StandingMeets b q t (OfUnit d) before c = IfSome (part_of b q.sale c) (PartMeets (parts_of b q.sale t.components) d)
StandingMeets b q t EndOnEnd before c = Unit {0}
StandingMeets b q t Straddling before c = Unit {0}

-- The ticket meets the demand, as a whole and with each component.
pub record Met (b : Book) (q : Request) (t : Ticket) (demand : Demand) : Type 0 where
  pub whole : TicketMeets b q t demand
  pub each : (before : List Component) (c : Component) (after : List Component) → t.components ≡ before ++ c ∷ after → StandingMeets b q t demand before c

-- The component of this number, counted from 1, doesn't meet the demand.
pub record BrokenAt (b : Book) (q : Request) (t : Ticket) (demand : Demand) (number : ℕ) : Type 0 where
  pub before : List Component
  pub component : Component
  pub after : List Component
  pub split : t.components ≡ before ++ component ∷ after
  pub at : number ≡ suc (length before)
  pub broken : StandingMeets b q t demand before component → ⊥

-- The ticket breaks the demand at the component of this number, or, at 0, as a whole.
abbrev pub Breaks : Book → Request → Ticket → Demand → ℕ → Type 0
Breaks b q t demand number = ((number ≡ 0) × (TicketMeets b q t demand → ⊥)) ⊎ BrokenAt b q t demand number

-- The least component at which the ticket breaks the demand.
pub record FirstBroken (b : Book) (q : Request) (t : Ticket) (demand : Demand) (number : ℕ) : Type 0 where
  pub breaks : Breaks b q t demand number
  pub least : (other : ℕ) → Breaks b q t demand other → number ≤ other

abbrev pub component_number : ComponentDemand → ℕ
component_number KnownFlights = 2
component_number FlightCount = 3
component_number NoGap = 4
component_number PlacesOnce = 5
component_number LiveFare = 11
component_number FareEnds = 12
component_number Seats = 14
component_number DayTime = 15
component_number Flights = 16
component_number Stopovers = 17
component_number Transfers = 18

abbrev pub journey_number : JourneyDemand → ℕ
journey_number Slices = 6
journey_number Length = 7
journey_number Places = 8
journey_number Connections = 9
journey_number Window = 10

abbrev pub unit_number : UnitDemand → ℕ
unit_number Shape = 19
unit_number FareKind = 20
unit_number FirstDay = 21
unit_number TravelDates = 22
unit_number Stay = 23
unit_number Combination = 24

-- the number of the breach of a demand
abbrev pub number_of : Demand → ℕ
number_of HasComponent = 1
number_of (OfComponent d) = component_number d
number_of (OfJourney d) = journey_number d
number_of Labels = 13
number_of (OfUnit d) = unit_number d
number_of EndOnEnd = 25
number_of Straddling = 26

-- The breach of the least number, at the least component that has it.
pub record FirstBreach (b : Book) (q : Request) (t : Ticket) (breach : Breach) : Type 0 where
  pub demand : Demand
  pub number : breach.rule ≡ number_of demand
  pub broken : FirstBroken b q t demand breach.component
  pub lower : (other : Demand) → number_of other < breach.rule → Met b q t other
