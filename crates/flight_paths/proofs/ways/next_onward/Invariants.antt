use Rattle.std.proofs.Common.{◌≡◌, ◌≢◌, ℕ, ◌≤◌, ◌<◌, slice_get, Some}
use Rattle.fare_law.specs.declared.flights.Flight.{Flight}
use Rattle.flight_paths.proofs.ways.next_onward.Given as goal

abbrev pub invariant-loop-i : goal.invariant-loop-i
invariant-loop-i l = (k : ℕ) → l.from ≤ k → k < l.i → (n : ℕ) → slice_get l.numbers k ≡ Some n → (f : Flight) → slice_get l.flights n ≡ Some f → f.to ≢ l.slice.to
