-- What a component meets by itself, where it stands for a lawful part.
use Rattle.std.proofs.Common.{◌≡◌, ◌≤◌, true, false, List, [], ◌∷◌, length, Some, IfSome, IsSome, MatchBool, Bool, refl, sym, subst, inl, inr, arith}
use Rattle.fare_law.specs.declared.flights.Flight.{Flight}
use Rattle.fare_law.specs.declared.requests.Request.{Request}
use Rattle.fare_law.specs.declared.rules.Rule.{Rule}
use Rattle.fare_law.specs.declared.sheets.SheetRow.{SheetRow}
use Rattle.fare_law.specs.declared.tickets.Component.{Component}
use Rattle.fare_law.specs.declared.tickets.Piece.{Piece}
use Rattle.fare_law.specs.Book.{Book, flight_at}
use Rattle.fare_law.specs.Journey.{Joins, calls}
use Rattle.fare_law.specs.Parts.{Part, IsPart, Filed, ComponentLawful, DayTimeHolds, FlightsHold, Seated, StopoversHold, TransfersHold}
use Rattle.fare_law.specs.Lists.{EachPair, OnFirst, OnLast, AllDifferent}
use Rattle.ticket_whole.specs.declared.demand.ComponentDemand.{ComponentDemand}
use Rattle.ticket_whole.specs.declared.demand.ComponentDemand.TheVariants.{KnownFlights, FlightCount, NoGap, PlacesOnce, LiveFare, FareEnds, Seats, DayTime, Flights, Stopovers, Transfers}
use Rattle.fare_law.specs.Offers.{FiledBetween}
use Rattle.ticket_whole.specs.Breaches.{ComponentMeets, OnRow}
use Rattle.ticket_whole.specs.Known.{known_flights, live_row, ends_of}
use Rattle.ticket_whole.proofs.PartLookups.{numbers_known, row_live}
use Rattle.law_lemmas.proofs.LawFacts.{numbered_unknown}
use Rattle.law_lemmas.proofs.Pairs.{matched_length}
use Rattle.ticket_whole.proofs.FlightEnds.{on_last}

-- the row of a fare that stands over flights
abbrev pub row_for : Piece → SheetRow
row_for p = record { fare = p.fare; rule = p.rule }

called_once : (fs : List Flight) → OnFirst (λ f. AllDifferent (calls f.from fs)) fs → IfSome (ends_of fs) (λ e. AllDifferent (calls e.0.from fs))
called_once [] h = absurd h
called_once (f ∷ fs) h = h

on_time : (rule : Rule) (fs : List Flight) → OnFirst (DayTimeHolds rule) fs → IfSome (ends_of fs) (λ e. DayTimeHolds rule e.0)
on_time rule [] h = absurd h
on_time rule (f ∷ fs) h = h

filed_fits : (p : Piece) (r : Bool) → p.reverse ≡ r → Filed p → FiledBetween p.fare.key p.begin p.end
filed_fits p true is h = inr (subst (λ t. MatchBool t ((p.fare.key.from ≡ p.end) × (p.fare.key.to ≡ p.begin)) ((p.fare.key.from ≡ p.begin) × (p.fare.key.to ≡ p.end))) is h)
filed_fits p false is h = inl (subst (λ t. MatchBool t ((p.fare.key.from ≡ p.end) × (p.fare.key.to ≡ p.begin)) ((p.fare.key.from ≡ p.begin) × (p.fare.key.to ≡ p.end))) is h)

ends_fit : (p : Piece) (fs : List Flight) → OnFirst (λ f. (p.begin ≡ f.from) × (p.first_day ≡ f.day)) fs → OnLast (λ f. (p.end ≡ f.to) × (p.last_day ≡ f.day)) fs → Filed p → IfSome (ends_of fs) (λ e. FiledBetween p.fare.key e.0.from e.1.to)
ends_fit p [] o l h = absurd o
ends_fit p (f ∷ fs) o l h =
    let z = on_last (λ g. (p.end ≡ g.to) × (p.last_day ≡ g.day)) f fs l in
    subst (λ q. FiledBetween p.fare.key f.from q) z.0 (subst (λ q. FiledBetween p.fare.key q p.end) o.0 (filed_fits p p.reverse refl h))

some_flight : (P : Flight → Type 0) (fs : List Flight) → OnFirst P fs → 1 ≤ length fs
some_flight P [] h = absurd h
some_flight P (f ∷ fs) h = omega arith

module _ (b : Book) (q : Request) (c : Component) (part : Part) (is : IsPart b q c part) where
  known : known_flights b c.flights ≡ part.flights
  known = numbers_known b c.flights part.flights is.flights

  live : live_row b c.fare ≡ Some (row_for part.piece)
  live = row_live b c part.piece.fare part.piece.rule is.stands.fare is.stands.rule

  over_known : (P : List Flight → Type 0) → P part.flights → P (known_flights b c.flights)
  over_known P h = subst P (sym known) h

  on_row : (P : SheetRow → List Flight → Type 0) → P (row_for part.piece) part.flights → OnRow b c P
  on_row P h = subst (λ o. IfSome o (λ row. P row (known_flights b c.flights))) (sym live) (over_known (P (row_for part.piece)) h)

  -- a component that stands for a lawful part meets each demand on it by itself
  pub lawful_component : ComponentLawful b q.party part.flights part.piece → (d : ComponentDemand) → ComponentMeets b q.party d c
  lawful_component l KnownFlights = λ u. numbered_unknown b c.flights part.flights is.flights u.0 u.1 u.2 u.3 u.4
  lawful_component l FlightCount =
      let n = matched_length (λ m f. flight_at b m ≡ Some f) c.flights part.flights is.flights in
      let some = some_flight _ part.flights is.stands.begins in
      (omega (arith, n, some), omega (arith, n, l.shape.few))
  lawful_component l NoGap = over_known (EachPair Joins) l.shape.joined
  lawful_component l PlacesOnce = over_known (λ fs. IfSome (ends_of fs) (λ e. AllDifferent (calls e.0.from fs))) (called_once part.flights l.shape.apart)
  lawful_component l LiveFare = subst IsSome (sym live) refl
  lawful_component l FareEnds = on_row (λ row fs. IfSome (ends_of fs) (λ e. FiledBetween row.fare.key e.0.from e.1.to)) (ends_fit part.piece part.flights is.stands.begins is.stands.ends is.stands.filed)
  lawful_component l Seats = on_row (λ row fs. Seated b q.party row.fare.class fs) l.seated
  lawful_component l DayTime = on_row (λ row fs. IfSome (ends_of fs) (λ e. DayTimeHolds row.rule e.0)) (on_time part.piece.rule part.flights l.day_time)
  lawful_component l Flights = on_row (λ row fs. FlightsHold row.rule fs) l.flights
  lawful_component l Stopovers = on_row (λ row fs. StopoversHold row.rule fs) l.stopovers
  lawful_component l Transfers = on_row (λ row fs. TransfersHold row.rule row.fare.key.carrier fs) l.transfers
