use Rattle.std.proofs.Common.{◌≡◌, max, map, drop}
use Rattle.ticket_whole.specs.Breaches.{greatest}
use Rattle.ticket_whole.proofs.boundaries.greatest.Given as goal

abbrev pub invariant-loop-component : goal.invariant-loop-component
invariant-loop-component l = max l.top (greatest (map (λ c. c.unit) (drop l.component-index l.components))) ≡ greatest (map (λ c. c.unit) l.components)
