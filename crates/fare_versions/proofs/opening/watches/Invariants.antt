use Rattle.std.proofs.Common.{◌≡◌, ◌≤◌, length, All, Some}
use Rattle.fare_versions.specs.Seen.{HasSeen}
use Rattle.fare_versions.specs.Writing.{last_seen, pending, shown}
use Rattle.fare_versions.proofs.opening.watches.Given as goal

abbrev pub invariant-loop : goal.invariant-loop
invariant-loop l =
    (last_seen l.writer ≡ Some (shown l.writer)) × (shown l.writer ≡ shown l.initial.writer) × (pending l.writer ≡ pending l.initial.writer)
    × All (HasSeen (shown l.initial.writer)) l.watches × (length l.watches ≤ l.counter)
