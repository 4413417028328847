use Rattle.std.proofs.Common.{◌≡◌, ◌≤◌, ◌==◌, ◌++◌, length, drop, filter}
use Rattle.ticket_whole.proofs.stretch.unit_of.Given as goal

abbrev pub invariant-loop-stretch : goal.invariant-loop-stretch
invariant-loop-stretch l =
    (l.found ++ filter (λ s. s.unit == l.unit) (drop l.stretch-index l.stretches) ≡ filter (λ s. s.unit == l.unit) l.stretches)
    × (length l.found ≤ l.stretch-index)
