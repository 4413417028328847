use Rattle.std.proofs.Common.{◌≡◌, ◌≤◌, length, map, take}
use Rattle.ticket_whole.proofs.boundaries.labels_of.Given as goal

abbrev pub invariant-loop-component : goal.invariant-loop-component
invariant-loop-component l = record {
  labels : l.labels ≡ map (λ c. c.unit) (take l.component-index l.components);
  few : length l.labels ≤ l.component-index;
}
