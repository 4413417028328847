-- What a rule that permits flights says of those with which they begin and end. Given on to the crates above.
use Rattle.std.proofs.Common.{◌≡◌, ◌≢◌, ℕ, ◌≤◌, Bool, true, false, List, [], ◌++◌, All, Any, Contains, Option, Some, None, IfSome, MatchBool, MatchOption, arith}
use Rattle.fare_law.specs.declared.flights.Flight.{Flight}
use Rattle.fare_law.specs.declared.names.Carrier.{Carrier}
use Rattle.fare_law.specs.declared.names.Place.{Place}
use Rattle.fare_law.specs.declared.rules.FlightRule.{FlightRule}
use Rattle.fare_law.specs.declared.rules.Rule.{Rule}
use Rattle.fare_law.specs.declared.rules.StopRule.{StopRule}
use Rattle.fare_law.specs.declared.rules.TransferRule.{TransferRule}
use Rattle.fare_law.specs.Lists.{EachPair, OnFirst}
use Rattle.fare_law.specs.Parts.{DayTimeHolds, FlightsHold, Lists, StopoversHold, is_stopover, stopovers, transfers}
use Rattle.fare_ends.specs.Halves.{PermitsHeads, PermitsTails}
use Rattle.fare_ends.proofs.Counted.{all_left, all_right, first_left, pairs_left, pairs_right, stopovers_parts, transfers_parts}
use Rattle.law_lemmas.proofs.Options.{if_some}

-- category 4 of one flight
abbrev FlightHolds : FlightRule → Flight → Type 0
FlightHolds c f = MatchBool c.allow (Any (λ range. Lists range f) c.flights) (All (λ range. Lists range f → ⊥) c.flights)

-- category 8 of two that follow each other
abbrev StopHolds : List Place → Flight → Flight → Type 0
StopHolds places f g = is_stopover f g ≡ true → Contains places f.to

abbrev StopsHold : List Flight → StopRule → Type 0
StopsHold fs c = (stopovers fs ≤ c.max) × IfSome c.places (λ places. EachPair (StopHolds places) fs)

abbrev IsOf : Carrier → Flight → Type 0
IsOf carrier f = f.carrier ≡ carrier

module _ (head tail : List Flight) where
  flights_left : (rule : Rule) → FlightsHold rule (head ++ tail) → FlightsHold rule head
  flights_left rule = if_some rule.cat4 (λ c. All (FlightHolds c) (head ++ tail)) (λ c. All (FlightHolds c) head) (λ c. all_left (FlightHolds c) head tail)

  flights_right : (rule : Rule) → FlightsHold rule (head ++ tail) → FlightsHold rule tail
  flights_right rule = if_some rule.cat4 (λ c. All (FlightHolds c) (head ++ tail)) (λ c. All (FlightHolds c) tail) (λ c. all_right (FlightHolds c) head tail)

  parts_low : (m : ℕ) → (stopovers (head ++ tail)) ≤ m → (stopovers head ≤ m) × (stopovers tail ≤ m)
  parts_low m h = let parts = stopovers_parts head tail in (omega (arith, parts, h), omega (arith, parts, h))

  stops_left : (rule : Rule) → StopoversHold rule (head ++ tail) → StopoversHold rule head
  stops_left rule = if_some rule.cat8 (StopsHold (head ++ tail)) (StopsHold head) (λ c h.
      ((parts_low c.max h.0).0, if_some c.places (λ places. EachPair (StopHolds places) (head ++ tail)) (λ places. EachPair (StopHolds places) head) (λ places. pairs_left (StopHolds places) head tail) h.1))

  stops_right : (rule : Rule) → StopoversHold rule (head ++ tail) → StopoversHold rule tail
  stops_right rule = if_some rule.cat8 (StopsHold (head ++ tail)) (StopsHold tail) (λ c h.
      ((parts_low c.max h.0).1, if_some c.places (λ places. EachPair (StopHolds places) (head ++ tail)) (λ places. EachPair (StopHolds places) tail) (λ places. pairs_right (StopHolds places) head tail) h.1))

  carriers_left : (carrier : Carrier) (online : Bool) → head ≢ [] → MatchBool online (All (IsOf carrier) (head ++ tail)) (OnFirst (IsOf carrier) (head ++ tail)) → MatchBool online (All (IsOf carrier) head) (OnFirst (IsOf carrier) head)
  carriers_left carrier true some h = all_left (IsOf carrier) head tail h
  carriers_left carrier false some h = first_left (IsOf carrier) head tail some h

  transfers_left : (carrier : Carrier) (o : Option TransferRule) → head ≢ []
      → MatchOption o (OnFirst (IsOf carrier) (head ++ tail)) (λ c. (transfers (head ++ tail) ≤ c.max) × MatchBool c.online (All (IsOf carrier) (head ++ tail)) (OnFirst (IsOf carrier) (head ++ tail)))
      → MatchOption o (OnFirst (IsOf carrier) head) (λ c. (transfers head ≤ c.max) × MatchBool c.online (All (IsOf carrier) head) (OnFirst (IsOf carrier) head))
  transfers_left carrier None some h = first_left (IsOf carrier) head tail some h
  transfers_left carrier (Some c) some h = let parts = transfers_parts head tail in (omega (arith, parts, h.0), carriers_left carrier c.online some h.1)

pub permits_heads : PermitsHeads
permits_heads rule carrier head tail some h = record {
  day_time = first_left (DayTimeHolds rule) head tail some h.day_time;
  flights = flights_left head tail rule h.flights;
  stopovers = stops_left head tail rule h.stopovers;
  transfers = transfers_left head tail carrier rule.cat9 some h.transfers;
}

pub permits_tails : PermitsTails
permits_tails rule carrier head tail h = (flights_right head tail rule h.flights, stops_right head tail rule h.stopovers, carriers_right rule.cat9 h.transfers)
  where
    by_form : (online : Bool) → MatchBool online (All (IsOf carrier) (head ++ tail)) (OnFirst (IsOf carrier) (head ++ tail)) → online ≡ true → All (IsOf carrier) tail
    by_form true all e = all_right (IsOf carrier) head tail all
    by_form false first e = absurd (cc)

    carriers_right : (o : Option TransferRule) → MatchOption o (OnFirst (IsOf carrier) (head ++ tail)) (λ c. (transfers (head ++ tail) ≤ c.max) × MatchBool c.online (All (IsOf carrier) (head ++ tail)) (OnFirst (IsOf carrier) (head ++ tail)))
        → IfSome o (λ c. c.online ≡ true → All (IsOf carrier) tail)
    carriers_right None h = tt
    carriers_right (Some c) h = by_form c.online h.1
