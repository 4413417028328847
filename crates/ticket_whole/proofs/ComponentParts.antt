-- The lawful part that a component stands for, where it meets each demand on it by itself.
use Rattle.std.proofs.Common.{◌≡◌, ◌⊎◌, ◌∙◌, true, false, List, [], ◌∷◌, length, Option, Some, None, IfSome, MatchBool, Bool, option_map, option_and_then, refl, ap, sym, subst, inl, inr, arith}
use Rattle.std.specs.Bool.{Decides}
use Rattle.std.proofs.lemmas.Bool.Decides.{Decides-and}
use Rattle.fare_law.specs.declared.fares.Fare.{Fare}
use Rattle.fare_law.specs.declared.flights.Flight.{Flight}
use Rattle.fare_law.specs.declared.requests.Request.{Request}
use Rattle.fare_law.specs.declared.rules.Rule.{Rule}
use Rattle.fare_law.specs.declared.sheets.SheetRow.{SheetRow}
use Rattle.fare_law.specs.declared.tickets.Component.{Component}
use Rattle.fare_law.specs.Book.{Book, flight_at, live_fare, live_rule}
use Rattle.fare_law.specs.Journey.{Joins, calls}
use Rattle.fare_law.specs.Parts.{Part, IsPart, Numbers, ComponentLawful, DayTimeHolds, FlightsHold, Seated, StopoversHold, TransfersHold}
use Rattle.fare_law.specs.Lists.{EachPair, AllDifferent}
use Rattle.ticket_whole.specs.declared.demand.ComponentDemand.{ComponentDemand}
use Rattle.ticket_whole.specs.declared.demand.ComponentDemand.TheVariants.{KnownFlights, FlightCount, NoGap, PlacesOnce, LiveFare, FareEnds, Seats, DayTime, Flights, Stopovers, Transfers}
use Rattle.fare_law.specs.Offers.{FiledBetween}
use Rattle.ticket_whole.specs.Breaches.{ComponentMeets, OnRow}
use Rattle.ticket_whole.specs.Known.{known_flights, live_row, last_of, ends_of, part_of, part_over}
use Rattle.ticket_whole.proofs.PartLookups.{looked_up}
use Rattle.law_lemmas.proofs.Names.{places_told}
use Rattle.law_lemmas.proofs.Options.{some_of, some_same}
use Rattle.law_lemmas.proofs.Pairs.{matched_length}
use Rattle.ticket_whole.proofs.FlightEnds.{last_on}
use Rattle.ticket_whole.proofs.PriceSums.{numbered}

-- a component stands for this lawful part, and is looked up as it
pub record StandsAs (b : Book) (q : Request) (c : Component) (part : Part) : Type 0 where
  pub found : part_of b q.sale c ≡ Some part
  pub is : IsPart b q c part
  pub lawful : ComponentLawful b q.party part.flights part.piece

row_put : (f : Fare) (o : Option Rule) (row : SheetRow) → option_map (λ (rule : Rule). record { fare = f; rule = rule }) o ≡ Some row → (f ≡ row.fare) × (o ≡ Some row.rule)
row_put f None row e = absurd (cc)
row_put f (Some rule) row e =
    let same = some_same (record { fare = f; rule = rule }) row e in
    (ap (λ (x : SheetRow). x.fare) same, ap (λ (x : SheetRow). Some x.rule) same)

fare_and_rule : (b : Book) (c : Component) (o : Option Fare) (row : SheetRow) → live_fare b c.fare ≡ o → option_and_then (λ (fare : Fare). option_map (λ (rule : Rule). record { fare = fare; rule = rule }) (live_rule b c.fare.carrier fare.rule)) o ≡ Some row
    → (live_fare b c.fare ≡ Some row.fare) × (live_rule b c.fare.carrier row.fare.rule ≡ Some row.rule)
fare_and_rule b c None row is e = absurd (cc)
fare_and_rule b c (Some fare) row is e =
    let put = row_put fare (live_rule b c.fare.carrier fare.rule) row e in
    (is ∙ ap Some put.0, ap (λ (f : Fare). live_rule b c.fare.carrier f.rule) (sym put.0) ∙ put.1)

filed_told : {A B : Type 0} (t : Bool) → Decides t A → B ⊎ A → MatchBool t A B
filed_told true d h = d.0 refl
filed_told false d h = elim h [ inl x ↦ x | inr y ↦ let w : false ≡ true = d.1 y in absurd (cc) ]

module _ (b : Book) (q : Request) (c : Component) (meets : (d : ComponentDemand) → ComponentMeets b q.party d c) (row : SheetRow) (live : live_row b c.fare ≡ Some row) (f : Flight) (fs : List Flight) (known : known_flights b c.flights ≡ f ∷ fs) where
  abbrev part : Part
  part = part_over q.sale c.unit row (f ∷ fs) (f, last_of f fs)

  over_known : (P : List Flight → Type 0) → P (known_flights b c.flights) → P (f ∷ fs)
  over_known P h = subst P known h

  on_row : (P : SheetRow → List Flight → Type 0) → OnRow b c P → P row (f ∷ fs)
  on_row P h = over_known (P row) (subst (λ o. IfSome o (λ r. P r (known_flights b c.flights))) live h)

  numbers : Numbers b c.flights (f ∷ fs)
  numbers = over_known (Numbers b c.flights) (numbered b c.flights (meets KnownFlights))

  stands : IsPart b q c part
  stands =
      let live_both = fare_and_rule b c (live_fare b c.fare) row refl live in
      record {
        flights = numbers;
        stands = record {
          fare = live_both.0;
          rule = live_both.1;
          begins = (refl, refl);
          ends = last_on (λ g. ((last_of f fs).to ≡ g.to) × ((last_of f fs).day ≡ g.day)) f fs (refl, refl);
          filed = filed_told _ (Decides-and _ _ (places_told row.fare.key.from (last_of f fs).to) (places_told row.fare.key.to f.from))
              (on_row (λ r gs. IfSome (ends_of gs) (λ e. FiledBetween r.fare.key e.0.from e.1.to)) (meets FareEnds));
          sale_is = refl;
        };
        unit = refl;
      }

  lawful : ComponentLawful b q.party (f ∷ fs) part.piece
  lawful =
      let n = matched_length (λ m g. flight_at b m ≡ Some g) c.flights (f ∷ fs) numbers in
      record {
        shape = record {
          few = let four = (meets FlightCount).1 in omega (arith, n, four);
          joined = over_known (EachPair Joins) (meets NoGap);
          apart = over_known (λ gs. IfSome (ends_of gs) (λ e. AllDifferent (calls e.0.from gs))) (meets PlacesOnce);
        };
        seated = on_row (λ r gs. Seated b q.party r.fare.class gs) (meets Seats);
        day_time = on_row (λ r gs. IfSome (ends_of gs) (λ e. DayTimeHolds r.rule e.0)) (meets DayTime);
        flights = on_row (λ r gs. FlightsHold r.rule gs) (meets Flights);
        stopovers = on_row (λ r gs. StopoversHold r.rule gs) (meets Stopovers);
        transfers = on_row (λ r gs. TransfersHold r.rule r.fare.key.carrier gs) (meets Transfers);
      }

  stands_over : (p : Part) × StandsAs b q c p
  stands_over = (part, record { found = looked_up b q.sale c row f fs live known; is = stands; lawful = lawful })

-- a component that meets each demand on it by itself stands for a lawful part
pub stands_as : (b : Book) (q : Request) (c : Component) → ((d : ComponentDemand) → ComponentMeets b q.party d c) → (part : Part) × StandsAs b q c part
stands_as b q c meets = go (known_flights b c.flights) refl
  where
    go : (gs : List Flight) → known_flights b c.flights ≡ gs → (part : Part) × StandsAs b q c part
    go [] e =
        let n = matched_length (λ m g. flight_at b m ≡ Some g) c.flights [] (subst (Numbers b c.flights) e (numbered b c.flights (meets KnownFlights))) in
        let some = (meets FlightCount).0 in
        let none : length {A = Flight} [] ≡ 0 = refl in
        absurd (omega (arith, n, some, none))
    go (f ∷ fs) e = let row = some_of (live_row b c.fare) (meets LiveFare) in stands_over b q c meets row.0 row.1 f fs e
