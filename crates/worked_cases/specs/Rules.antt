-- Rules of one category each, and what they are asked about.
use Rattle.std.specs.Prelude.{ℕ, Bool, pos, List, [], ◌∷◌, Some, None}
use Rattle.fare_law.specs.declared.fares.FareKind.TheVariants.{O}
use Rattle.fare_law.specs.declared.flights.Flight.{Flight}
use Rattle.fare_law.specs.declared.names.Carrier.{Carrier}
use Rattle.fare_law.specs.declared.rules.DayRange.{DayRange}
use Rattle.fare_law.specs.declared.rules.EndOnEnd.{EndOnEnd}
use Rattle.fare_law.specs.declared.rules.Partners.{Partners}
use Rattle.fare_law.specs.declared.rules.Rule.{Rule}
use Rattle.fare_law.specs.declared.rules.UnitKind.{UnitKind}
use Rattle.fare_law.specs.declared.rules.UnitKind.TheVariants.{OneWay, RoundTrip, OpenJaw, Circle}
use Rattle.fare_law.specs.declared.tickets.Piece.{Piece}
use Rattle.fare_law.specs.Book.{free_rule}
use Rattle.fare_law.specs.Parts.{Part}
use Rattle.worked_cases.specs.Cases.{backward, forward}
use Rattle.worked_cases.specs.Makers.{fare_of, lon, nyc, qx}

abbrev pub bx : Carrier
bx = record { 0 = 66 ∷ 88 ∷ [] }

-- the flight, but of carrier BX
abbrev pub by_bx : Flight → Flight
by_bx f = record f { carrier = bx }

-- category 2: on these weekdays, from this minute to that
abbrev pub departs_on : List ℕ → ℕ → ℕ → Rule
departs_on days from to = record free_rule { cat2 = Some (record { days = days; from = from; to = to }) }

abbrev pub from_to : ℕ → ℕ → DayRange
from_to first last = record { first = pos first; last = pos last }

-- the first days of March 2031 from Monday the 3rd, or the whole of April
abbrev pub two_ranges : List DayRange
two_ranges = from_to 22341 22348 ∷ from_to 22370 22399 ∷ []

-- category 3
abbrev pub in_season : Rule
in_season = record free_rule { cat3 = Some two_ranges }

-- category 4: flights of QX with these numbers alone, or all others
abbrev pub lists_flights : Bool → ℕ → ℕ → Rule
lists_flights allow low high = record free_rule { cat4 = Some (record { allow = allow; flights = record { carrier = qx; low = low; high = high } ∷ [] }) }

-- category 5
abbrev pub bought_before : ℕ → Rule
bought_before days = record free_rule { cat5 = Some days }

-- category 7
abbrev pub stays_at_most : ℕ → Rule
stays_at_most days = record free_rule { cat7 = Some days }

-- category 9
abbrev pub changes_at_most : ℕ → Bool → Rule
changes_at_most max online = record free_rule { cat9 = Some (record { max = max; online = online }) }

-- category 10
abbrev pub combines : List UnitKind → Partners → EndOnEnd → Rule
combines kinds partners end_on_end = record free_rule { cat10 = Some (record { kinds = kinds; partners = partners; end_on_end = end_on_end }) }

abbrev pub all_kinds : List UnitKind
all_kinds = OneWay ∷ RoundTrip ∷ OpenJaw ∷ Circle ∷ []

-- category 14, on the first day
abbrev pub travels_within : Rule
travels_within = record free_rule { cat14 = Some (record { ranges = Some two_ranges; by = None }) }

-- category 14, on the last day
abbrev pub travels_by : ℕ → Rule
travels_by day = record free_rule { cat14 = Some (record { ranges = None; by = Some (pos day) }) }

-- from London to New York on Monday, 3 March 2031, on this rule
abbrev pub there : Rule → Piece
there rule = record (forward lon nyc) { rule = rule }

-- the same on a fare of kind O
abbrev pub there_alone : Rule → Piece
there_alone rule = record (there rule) { fare = fare_of lon nyc 65 O 20000 1 }

-- and back a week later
abbrev pub back_again : Rule → Piece
back_again rule = record (backward nyc lon) { rule = rule }

-- with a fare of this carrier on its rule of this number
abbrev pub filed_by : Carrier → ℕ → Piece → Piece
filed_by carrier number p = record p { fare = record p.fare { key = record p.fare.key { carrier = carrier }; rule = number } }

-- in the unit of this label
abbrev pub in_unit : ℕ → Piece → Part
in_unit unit p = record { flights = []; piece = p; unit = unit }
