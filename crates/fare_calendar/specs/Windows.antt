-- Flights by the windows of two slices.
use Rattle.std.specs.Prelude.{◌≡◌, ℕ, List, slice_get, IfSome}
use Rattle.fare_law.specs.declared.flights.Flight.{Flight}
use Rattle.fare_law.specs.declared.requests.Slice.{Slice}
use Rattle.flight_paths.specs.Positions.{in_window}

-- the flight of a number is in both windows or in neither
abbrev pub IsAlike : List Flight → Slice → Slice → ℕ → Type 0
IsAlike flights s t number = IfSome (slice_get flights number) (λ f. in_window s f ≡ in_window t f)
