use Rattle.std.proofs.Common.{◌≡◌, ◌≤◌, ◌++◌, ℤ, length, drop, option_map}
use Rattle.std.specs.List.{filter_map}
use Rattle.fare_law.specs.Days.{IsCalendarDay}
use Rattle.fare_law.specs.Lists.{Each}
use Rattle.ticket_whole.specs.Known.{part_of}
use Rattle.ticket_whole.specs.Stretches.{stretch_of}
use Rattle.ticket_whole.proofs.stretch.stretches_of.Given as goal

abbrev pub invariant-loop-component : goal.invariant-loop-component
invariant-loop-component l =
    ((sale : ℤ) → l.found ++ filter_map (λ c. option_map stretch_of (part_of l.book sale c)) (drop l.component-index l.components) ≡ filter_map (λ c. option_map stretch_of (part_of l.book sale c)) l.components)
    × (length l.found ≤ l.component-index) × Each (λ s. IsCalendarDay s.first_day) l.found
