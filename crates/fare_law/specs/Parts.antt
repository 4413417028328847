-- One component: what it stands for in the book, and the rules that look at it alone.
use Rattle.std.specs.Prelude.{◌≡◌, ℕ, ℤ, Bool, true, pos, ◌+◌, ◌*◌, ◌/◌, ◌≤◌, ◌+ℤ◌, List, [], ◌∷◌, length, sum_by, All, Any, Contains, IfSome, MatchOption, Option, Some, None, option_map, unwrap_or, MatchBool, cond, int_lt, int_le, nat_le, ◌&&◌}
use Rattle.fare_law.specs.declared.names.Carrier.{Carrier}
use Rattle.fare_law.specs.declared.fares.Fare.{Fare}
use Rattle.fare_law.specs.declared.fares.FareKey.{FareKey}
use Rattle.fare_law.specs.declared.fares.FareKind.{FareKind}
use Rattle.fare_law.specs.declared.fares.FareKind.TheVariants.{O, R, S}
use Rattle.fare_law.specs.declared.flights.Flight.{Flight}
use Rattle.fare_law.specs.declared.rules.FlightRange.{FlightRange}
use Rattle.fare_law.specs.declared.requests.Request.{Request}
use Rattle.fare_law.specs.declared.tickets.Component.{Component}
use Rattle.fare_law.specs.declared.tickets.Piece.{Piece}
use Rattle.fare_law.specs.declared.rules.Rule.{Rule}
use Rattle.fare_law.specs.declared.rules.Surcharge.{Surcharge}
use Rattle.fare_law.specs.Book.{Book, flight_at, live_fare, live_rule, seats, same_carrier}
use Rattle.fare_law.specs.Days.{weekday}
use Rattle.fare_law.specs.Journey.{Joins, calls}
use Rattle.fare_law.specs.Lists.{EachPair, OnFirst, OnLast, AllDifferent, Matched}

-- one to four flights, each from where the one before arrived, over places that are all different
pub record Shape (fs : List Flight) : Type 0 where
  pub few : length fs ≤ 4
  pub joined : EachPair Joins fs
  pub apart : OnFirst (λ f. AllDifferent (calls f.from fs)) fs

-- the fare is filed from the beginning to the end, or for a reverse one from the end to the beginning
abbrev pub Filed : Piece → Type 0
Filed p = MatchBool p.reverse ((p.fare.key.from ≡ p.end) × (p.fare.key.to ≡ p.begin)) ((p.fare.key.from ≡ p.begin) × (p.fare.key.to ≡ p.end))

-- What a fare over these flights is to a unit and to a ticket.
pub record StandsFor (b : Book) (sale : ℤ) (key : FareKey) (fs : List Flight) (p : Piece) : Type 0 where
  pub fare : live_fare b key ≡ Some p.fare
  pub rule : live_rule b key.carrier p.fare.rule ≡ Some p.rule
  pub begins : OnFirst (λ f. (p.begin ≡ f.from) × (p.first_day ≡ f.day)) fs
  pub ends : OnLast (λ f. (p.end ≡ f.to) × (p.last_day ≡ f.day)) fs
  pub filed : Filed p
  pub sale_is : p.sale ≡ sale

-- the flights of these numbers
abbrev pub Numbers : Book → List ℕ → List Flight → Type 0
Numbers b ns fs = Matched (λ n f. flight_at b n ≡ Some f) ns fs

-- a component with its flights, what it is to its unit, and the label of that
pub record Part : Type 0 where
  pub flights : List Flight
  pub piece : Piece
  pub unit : ℕ

pub record IsPart (b : Book) (q : Request) (c : Component) (part : Part) : Type 0 where
  pub flights : Numbers b c.flights part.flights
  pub stands : StandsFor b q.sale c.fare part.flights part.piece
  pub unit : part.unit ≡ c.unit

abbrev pub Seated : Book → ℕ → ℕ → List Flight → Type 0
Seated b party class fs = All (λ f. party ≤ seats b f class) fs

-- category 2
abbrev pub DayTimeHolds : Rule → Flight → Type 0
DayTimeHolds r f = IfSome r.cat2 (λ c. Contains c.days (weekday f.day) × (c.from ≤ f.minute) × (f.minute ≤ c.to))

abbrev pub Lists : FlightRange → Flight → Type 0
Lists range f = (f.carrier ≡ range.carrier) × (range.low ≤ f.number) × (f.number ≤ range.high)

-- category 4
abbrev pub FlightsHold : Rule → List Flight → Type 0
FlightsHold r fs = IfSome r.cat4 (λ c. All (λ f. MatchBool c.allow (Any (λ range. Lists range f) c.flights) (All (λ range. Lists range f → ⊥) c.flights)) fs)

-- the gap between two flights is over a day
abbrev pub is_stopover : Flight → Flight → Bool
is_stopover f g = int_lt (f.arr +ℤ pos 1440) g.dep

abbrev pub stopovers : List Flight → ℕ
stopovers [] = 0
stopovers (f ∷ []) = 0
stopovers (f ∷ g ∷ gs) = cond (is_stopover f g) 1 0 + stopovers (g ∷ gs)

abbrev pub transfers : List Flight → ℕ
transfers [] = 0
transfers (f ∷ []) = 0
transfers (f ∷ g ∷ gs) = cond (is_stopover f g) 0 1 + transfers (g ∷ gs)

-- category 8
abbrev pub StopoversHold : Rule → List Flight → Type 0
StopoversHold r fs = IfSome r.cat8 (λ c. (stopovers fs ≤ c.max) × IfSome c.places (λ places. EachPair (λ f g. is_stopover f g ≡ true → Contains places f.to) fs))

-- category 9
abbrev pub TransfersHold : Rule → Carrier → List Flight → Type 0
TransfersHold r carrier fs =
    MatchOption r.cat9 (OnFirst (λ f. f.carrier ≡ carrier) fs)
    (λ c. (transfers fs ≤ c.max) × MatchBool c.online (All (λ f. f.carrier ≡ carrier) fs) (OnFirst (λ f. f.carrier ≡ carrier) fs))

-- The rules that look at the component alone.
pub record ComponentLawful (b : Book) (party : ℕ) (fs : List Flight) (p : Piece) : Type 0 where
  pub shape : Shape fs
  pub seated : Seated b party p.fare.class fs
  pub day_time : OnFirst (DayTimeHolds p.rule) fs
  pub flights : FlightsHold p.rule fs
  pub stopovers : StopoversHold p.rule fs
  pub transfers : TransfersHold p.rule p.fare.key.carrier fs

-- the price of a component

abbrev pub share : FareKind → ℕ → ℕ
share O amount = amount
share R amount = amount / 2
share S amount = amount

abbrev pub stopover_charge : Rule → List Flight → ℕ
stopover_charge r fs = unwrap_or (option_map (λ c. c.charge * stopovers fs) r.cat8) 0

abbrev pub fits : Surcharge → Flight → Bool
fits s f = same_carrier s.carrier f.carrier && nat_le s.low f.number && nat_le f.number s.high && int_le s.first f.day && int_le f.day s.last

abbrev pub surcharges : Option (List Surcharge) → List Flight → ℕ
surcharges None fs = 0
surcharges (Some ss) fs = sum_by (λ f. sum_by (λ s. cond (fits s f) s.amount 0) ss) fs

abbrev pub fare_price : List Flight → Fare → Rule → ℕ
fare_price fs fare rule = share fare.kind fare.amount + stopover_charge rule fs + surcharges rule.cat12 fs

abbrev pub price_of : List Flight → Piece → ℕ
price_of fs p = fare_price fs p.fare p.rule
