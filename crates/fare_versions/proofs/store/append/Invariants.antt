use Rattle.std.proofs.Common.{◌≡◌, []}
use Rattle.fare_versions.specs.Writing.{pending, shown}
use Rattle.fare_versions.proofs.store.append.Given as goal

abbrev pub invariant-loop : goal.invariant-loop
invariant-loop g l = (pending l.writer ≡ []) × (shown l.writer ≡ shown l.initial.writer) × (l.edition ≡ l.initial.edition)
