-- Local days of departure and universal time.
use Rattle.std.specs.Prelude.{pos, ◌+ℤ◌, ◌-ℤ◌, ◌*ℤ◌, ◌≤ℤ◌, ◌<ℤ◌}
use Rattle.fare_law.specs.declared.flights.Flight.{Flight}

-- a flight departs on its local day, by a clock at most fourteen hours from universal time
abbrev pub KeepsDay : Flight → Type 0
KeepsDay f = (((f.day *ℤ pos 1440) -ℤ pos 840) ≤ℤ f.dep) × (f.dep <ℤ (((f.day +ℤ pos 1) *ℤ pos 1440) +ℤ pos 840))
