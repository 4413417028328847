-- Which demands are tested: a demand is tested where those are met that it needs to be of a meaning.
use Rattle.fare_law.specs.declared.requests.Request.{Request}
use Rattle.fare_law.specs.declared.tickets.Ticket.{Ticket}
use Rattle.fare_law.specs.Book.{Book}
use Rattle.ticket_whole.specs.declared.demand.ComponentDemand.{ComponentDemand}
use Rattle.ticket_whole.specs.declared.demand.ComponentDemand.TheVariants.{KnownFlights, FlightCount, NoGap, PlacesOnce, LiveFare, FareEnds, Seats, DayTime, Flights, Stopovers, Transfers}
use Rattle.ticket_whole.specs.declared.demand.JourneyDemand.{JourneyDemand}
use Rattle.ticket_whole.specs.declared.demand.JourneyDemand.TheVariants.{Slices, Length, Places, Connections, Window}
use Rattle.ticket_whole.specs.declared.demand.Demand.{Demand}
use Rattle.ticket_whole.specs.declared.demand.Demand.TheVariants.{HasComponent, OfComponent, OfJourney, Labels, OfUnit, EndOnEnd, Straddling}
use Rattle.ticket_whole.specs.Breaches.{Met}

-- There are components, and each has 1 to 4 flights, which are known.
pub record KnownMet (b : Book) (q : Request) (t : Ticket) : Type 0 where
  pub some : Met b q t HasComponent
  pub flights : Met b q t (OfComponent KnownFlights)
  pub count : Met b q t (OfComponent FlightCount)

-- The flights are cut into the request's slices.
abbrev pub CutMet : Book → Request → Ticket → Type 0
CutMet b q t = Met b q t (OfJourney Slices)

-- Each component is one without a gap that calls at no place twice, on a live fare between its ends, and the labels are numbered.
pub record JoinedMet (b : Book) (q : Request) (t : Ticket) : Type 0 where
  pub no_gap : Met b q t (OfComponent NoGap)
  pub places : Met b q t (OfComponent PlacesOnce)
  pub fare : Met b q t (OfComponent LiveFare)
  pub ends : Met b q t (OfComponent FareEnds)
  pub labels : Met b q t Labels

-- Rules 1 to 3 come first.
abbrev pub First : Book → Request → Ticket → Type 0
First b q t = Unit {0}

-- Where they are met, rules 4 to 6 and 11 to 13 are tested.
abbrev pub Second : Book → Request → Ticket → Type 0
Second b q t = KnownMet b q t

-- Rules 7 to 10 are tested where 6 is met too.
abbrev pub OnSlices : Book → Request → Ticket → Type 0
OnSlices b q t = KnownMet b q t × CutMet b q t

-- Rules 14 to 26 are tested where 4, 5, 11, 12 and 13 are met too.
abbrev pub Third : Book → Request → Ticket → Type 0
Third b q t = KnownMet b q t × JoinedMet b q t

abbrev pub IsComponentTested : Book → Request → Ticket → ComponentDemand → Type 0
IsComponentTested b q t KnownFlights = First b q t
IsComponentTested b q t FlightCount = First b q t
IsComponentTested b q t NoGap = Second b q t
IsComponentTested b q t PlacesOnce = Second b q t
IsComponentTested b q t LiveFare = Second b q t
IsComponentTested b q t FareEnds = Second b q t
IsComponentTested b q t Seats = Third b q t
IsComponentTested b q t DayTime = Third b q t
IsComponentTested b q t Flights = Third b q t
IsComponentTested b q t Stopovers = Third b q t
IsComponentTested b q t Transfers = Third b q t

abbrev pub IsJourneyTested : Book → Request → Ticket → JourneyDemand → Type 0
IsJourneyTested b q t Slices = Second b q t
IsJourneyTested b q t Length = OnSlices b q t
IsJourneyTested b q t Places = OnSlices b q t
IsJourneyTested b q t Connections = OnSlices b q t
IsJourneyTested b q t Window = OnSlices b q t

-- The demand is tested of this ticket.
abbrev pub IsTested : Book → Request → Ticket → Demand → Type 0
IsTested b q t HasComponent = First b q t
IsTested b q t (OfComponent d) = IsComponentTested b q t d
IsTested b q t (OfJourney d) = IsJourneyTested b q t d
IsTested b q t Labels = Second b q t
IsTested b q t (OfUnit d) = Third b q t
IsTested b q t EndOnEnd = Third b q t
IsTested b q t Straddling = Third b q t
