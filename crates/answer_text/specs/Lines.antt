-- The lines of an answer's text. A line is its name, then each word after a space, then LF.
use Rattle.std.specs.Prelude.{◌≡◌, ℕ, Bool, true, false, List, [], ◌∷◌, ◌++◌, flat_map, codes, decimal, Some}
use Rattle.fare_law.specs.declared.fares.FareKey.{FareKey}
use Rattle.fare_law.specs.declared.flights.Flight.{Flight}
use Rattle.fare_law.specs.declared.rules.UnitKind.{UnitKind}
use Rattle.fare_law.specs.declared.rules.UnitKind.TheVariants.{OneWay, RoundTrip, OpenJaw, Circle}
use Rattle.market_time.specs.Dates.{day_spelled}

abbrev pub line : List ℕ → List (List ℕ) → List ℕ
line name words = name ++ (flat_map (λ word. 32 ∷ word) words ++ codes "\n")

-- how many tickets there are
abbrev pub tickets_line : ℕ → List ℕ
tickets_line count = line (codes "tickets") (decimal count ∷ [])

-- a ticket's number and its price
abbrev pub ticket_line : ℕ → ℕ → List ℕ
ticket_line number price = line (codes "ticket") (decimal number ∷ codes "price" ∷ decimal price ∷ [])

abbrev pub kind_word : UnitKind → List ℕ
kind_word OneWay = codes "one_way"
kind_word RoundTrip = codes "round_trip"
kind_word OpenJaw = codes "open_jaw"
kind_word Circle = codes "circle"

-- whether a component is flown in the direction of its fare's filing
abbrev pub direction_word : Bool → List ℕ
direction_word false = codes "forward"
direction_word true = codes "reverse"

-- a component's number, its unit, the kind of this, its direction, its fare, its price
abbrev pub component_line : ℕ → ℕ → UnitKind → Bool → FareKey → ℕ → List ℕ
component_line number unit kind reverse fare price =
    line (codes "component") (
    decimal number ∷ codes "unit" ∷ decimal unit ∷ kind_word kind ∷ direction_word reverse
    ∷ fare.carrier.0 ∷ fare.from.0 ∷ fare.to.0 ∷ fare.basis.0 ∷ decimal price ∷ [])

-- The text is a flight's line: its carrier and number, the date of its departure, where it departs and arrives.
pub record FlightLine (f : Flight) (text : List ℕ) : Type 0 where
  pub date : List ℕ
  pub spells : day_spelled date ≡ Some f.day
  pub written : text ≡ line (codes "flight") (f.carrier.0 ∷ decimal f.number ∷ date ∷ f.from.0 ∷ f.to.0 ∷ [])

-- One text of this kind was added at the end.
pub record Adds (Is : List ℕ → Type 0) (old new : List ℕ) : Type 0 where
  pub added : List ℕ
  pub is : Is added
  pub whole : new ≡ old ++ added
