use Rattle.std.proofs.Common.{ℕ, ◌<◌, drop, take}
use Rattle.ticket_whole.specs.Boundaries.{AtMostTwo}
use Rattle.ticket_whole.proofs.boundaries.few_straddle.Given as goal

abbrev pub invariant-loop-at : goal.invariant-loop-at
invariant-loop-at l = (n : ℕ) → n < l.at → AtMostTwo (take n l.labels) (drop n l.labels)
