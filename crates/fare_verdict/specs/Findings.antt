-- The findings of a ticket: every breach, with its component, its unit and its category.
use Rattle.std.specs.Prelude.{◌≡◌, ◌⊎◌, ◌↔◌, ◌<◌, ℕ, suc, false, List, ◌∷◌, ◌++◌, length, map, IfSome}
use Rattle.fare_law.specs.declared.requests.Request.{Request}
use Rattle.fare_law.specs.declared.tickets.Component.{Component}
use Rattle.fare_law.specs.declared.tickets.Ticket.{Ticket}
use Rattle.fare_law.specs.Book.{Book}
use Rattle.fare_law.specs.Lawful.{comes_in}
use Rattle.fare_law.specs.Lists.{EachPair, IsIn}
use Rattle.ticket_whole.specs.declared.demand.CategoryDemand.{CategoryDemand}
use Rattle.ticket_whole.specs.declared.demand.CategoryDemand.TheVariants.{Season, Advance, LeastStay, GreatestStay}
use Rattle.ticket_whole.specs.declared.demand.ComponentDemand.{ComponentDemand}
use Rattle.ticket_whole.specs.declared.demand.ComponentDemand.TheVariants.{KnownFlights, FlightCount, NoGap, PlacesOnce, LiveFare, FareEnds, Seats, DayTime, Flights, Stopovers, Transfers}
use Rattle.ticket_whole.specs.declared.demand.Demand.{Demand}
use Rattle.ticket_whole.specs.declared.demand.Demand.TheVariants.{HasComponent, OfComponent, OfJourney, Labels, OfUnit, EndOnEnd, Straddling}
use Rattle.ticket_whole.specs.declared.demand.UnitDemand.{UnitDemand}
use Rattle.ticket_whole.specs.declared.demand.UnitDemand.TheVariants.{Shape, FareKind, FirstDay, TravelDates, Stay, Combination}
use Rattle.ticket_whole.specs.Breaches.{FirstBroken, StandingMeets, TicketMeets, number_of}
use Rattle.ticket_whole.specs.Categories.{CategoryMeets}
use Rattle.ticket_whole.specs.Known.{part_of, parts_of}
use Rattle.fare_verdict.specs.declared.finding.Finding.{Finding}
use Rattle.fare_verdict.specs.Stages.{IsTested}

-- the category that a demand on a component reads, 0 for none
abbrev pub component_category : ComponentDemand → ℕ
component_category KnownFlights = 0
component_category FlightCount = 0
component_category NoGap = 0
component_category PlacesOnce = 0
component_category LiveFare = 0
component_category FareEnds = 0
component_category Seats = 0
component_category DayTime = 2
component_category Flights = 4
component_category Stopovers = 8
component_category Transfers = 9

-- the category that a demand on the whole ticket reads, 0 for none
abbrev pub whole_category : Demand → ℕ
whole_category HasComponent = 0
whole_category (OfComponent d) = 0
whole_category (OfJourney d) = 0
whole_category Labels = 0
whole_category (OfUnit d) = 0
whole_category EndOnEnd = 10
whole_category Straddling = 0

-- the component, which stands after these, doesn't meet the demand
abbrev pub Misses : Book → Request → Ticket → Demand → List Component → Component → Type 0
Misses b q t demand before c = StandingMeets b q t demand before c → ⊥

-- the component doesn't meet the demand of the category
abbrev pub MissesCategory : Book → Request → Ticket → CategoryDemand → Component → Type 0
MissesCategory b q t category c = IfSome (part_of b q.sale c) (CategoryMeets (parts_of b q.sale t.components) category) → ⊥

-- no component before has this label
abbrev pub IsFirstOfUnit : List Component → Component → Type 0
IsFirstOfUnit before c = comes_in c.unit (map (λ d. d.unit) before) ≡ false

-- The component, which stands after these, fails the demand on its unit by this category. A unit without a kind fails at its first component;
-- the further demands are then met of themselves.
abbrev pub FailsInUnit : Book → Request → Ticket → UnitDemand → ℕ → List Component → Component → Type 0
FailsInUnit b q t Shape category before c = (category ≡ 0) × IsFirstOfUnit before c × Misses b q t (OfUnit Shape) before c
FailsInUnit b q t FareKind category before c = (category ≡ 0) × Misses b q t (OfUnit FareKind) before c
FailsInUnit b q t FirstDay category before c = ((category ≡ 3) × MissesCategory b q t Season c) ⊎ ((category ≡ 5) × MissesCategory b q t Advance c)
FailsInUnit b q t TravelDates category before c = (category ≡ 14) × Misses b q t (OfUnit TravelDates) before c
FailsInUnit b q t Stay category before c = ((category ≡ 6) × MissesCategory b q t LeastStay c) ⊎ ((category ≡ 7) × MissesCategory b q t GreatestStay c)
FailsInUnit b q t Combination category before c = (category ≡ 10) × Misses b q t (OfUnit Combination) before c

-- The component, which stands after these, fails the demand by this category. Of labels that aren't numbered the first fails.
abbrev pub Fails : Book → Request → Ticket → Demand → ℕ → List Component → Component → Type 0
Fails b q t HasComponent category before c = ⊥
Fails b q t (OfComponent d) category before c = (category ≡ component_category d) × Misses b q t (OfComponent d) before c
Fails b q t (OfJourney d) category before c = ⊥
Fails b q t Labels category before c = (category ≡ 0) × FirstBroken b q t Labels (suc (length before))
Fails b q t (OfUnit d) category before c = FailsInUnit b q t d category before c
Fails b q t EndOnEnd category before c = ⊥
Fails b q t Straddling category before c = ⊥

-- The finding is that the component of its number fails the demand, in the unit of that component.
pub record OnComponent (b : Book) (q : Request) (t : Ticket) (demand : Demand) (finding : Finding) : Type 0 where
  pub before : List Component
  pub component : Component
  pub after : List Component
  pub split : t.components ≡ before ++ component ∷ after
  pub at : finding.component ≡ suc (length before)
  pub unit : finding.unit ≡ component.unit
  pub fails : Fails b q t demand finding.category before component

-- The finding is that the ticket as a whole fails the demand.
pub record OnWhole (b : Book) (q : Request) (t : Ticket) (demand : Demand) (finding : Finding) : Type 0 where
  pub component : finding.component ≡ 0
  pub unit : finding.unit ≡ 0
  pub category : finding.category ≡ whole_category demand
  pub fails : TicketMeets b q t demand → ⊥

-- The finding is one of this demand.
pub record IsOf (b : Book) (q : Request) (t : Ticket) (demand : Demand) (finding : Finding) : Type 0 where
  pub rule : finding.rule ≡ number_of demand
  pub fails : OnWhole b q t demand finding ⊎ OnComponent b q t demand finding

-- It is a finding of this ticket.
pub record IsFinding (b : Book) (q : Request) (t : Ticket) (finding : Finding) : Type 0 where
  pub demand : Demand
  pub tested : IsTested b q t demand
  pub of : IsOf b q t demand finding

-- by rule, component, category
abbrev pub Before : Finding → Finding → Type 0
Before f g = (f.rule < g.rule) ⊎ ((f.rule ≡ g.rule) × ((f.component < g.component) ⊎ ((f.component ≡ g.component) × (f.category < g.category))))

-- These are all findings of which this holds, each once, in order.
pub record AreAll (Is : Finding → Type 0) (findings : List Finding) : Type 0 where
  pub order : EachPair Before findings
  pub each : (finding : Finding) → IsIn finding findings ↔ Is finding

-- These are the findings of the ticket.
abbrev pub AreFindings : Ticket → Book → Request → List Finding → Type 0
AreFindings t b q findings = AreAll (IsFinding b q t) findings
