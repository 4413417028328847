-- What categories 4 and 8 ask of one flight and of one connection.
use Rattle.std.specs.Prelude.{◌≡◌, Bool, true, not, ◌||◌, List, All, Any, Contains, MatchBool}
use Rattle.std.specs.List.{list_any}
use Rattle.fare_law.specs.declared.flights.Flight.{Flight}
use Rattle.fare_law.specs.declared.names.Place.{Place}
use Rattle.fare_law.specs.declared.rules.FlightRule.{FlightRule}
use Rattle.fare_law.specs.Book.{same_place}
use Rattle.fare_law.specs.Lists.{EachPair}
use Rattle.fare_law.specs.Parts.{Lists, is_stopover}

-- the flight is one of those listed, or none of those excluded
unfoldable pub PermitsFlight : FlightRule → Flight → Type 0
PermitsFlight c f = MatchBool c.allow (Any (λ range. Lists range f) c.flights) (All (λ range. Lists range f → ⊥) c.flights)

-- two neighbouring flights do not stop over, or do so at one of the places
unfoldable pub permits_stop : List Place → Flight → Flight → Bool
permits_stop places f g = not (is_stopover f g) || list_any (λ p. same_place p f.to) places

-- each stopover is at one of the places
unfoldable pub StopsOnlyAt : List Place → List Flight → Type 0
StopsOnlyAt places fs = EachPair (λ f g. is_stopover f g ≡ true → Contains places f.to) fs
