use Rattle.std.proofs.Common.{◌≡◌, ◌≤◌, ◌++◌, ℤ, length, drop, option_map}
use Rattle.std.specs.List.{filter_map}
use Rattle.ticket_whole.specs.Known.{part_of}
use Rattle.ticket_whole.specs.FaresOn.{fare_on}
use Rattle.ticket_whole.proofs.fares_on.fares_on.Given as goal

abbrev pub invariant-loop-component : goal.invariant-loop-component
invariant-loop-component l =
    ((sale : ℤ) → l.found ++ filter_map (λ c. option_map fare_on (part_of l.book sale c)) (drop l.component-index l.components) ≡ filter_map (λ c. option_map fare_on (part_of l.book sale c)) l.components)
    × (length l.found ≤ l.component-index)
