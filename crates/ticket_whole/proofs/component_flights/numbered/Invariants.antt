use Rattle.std.proofs.Common.{◌≡◌, ◌≤◌, ◌++◌, length, drop, slice_get}
use Rattle.std.specs.List.{filter_map}
use Rattle.fare_law.specs.Limits.{IsFlight}
use Rattle.fare_law.specs.Lists.{Each}
use Rattle.ticket_whole.proofs.component_flights.numbered.Given as goal

abbrev pub invariant-loop-number : goal.invariant-loop-number
invariant-loop-number l =
    (l.found ++ filter_map (slice_get l.flights) (drop l.number-index l.numbers) ≡ filter_map (slice_get l.flights) l.numbers)
    × (length l.found ≤ l.number-index) × Each IsFlight l.found
