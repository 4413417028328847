use Rattle.std.proofs.Common.{◌≢◌, ℕ, ◌<◌, Some}
use Rattle.fare_component.specs.Keys.{asked}
use Rattle.node_publish.specs.Homes.{Keeps, at_home}
use Rattle.node_publish.proofs.store.NodeStore.find.Given as goal

abbrev pub invariant-loop-j : goal.invariant-loop-j
invariant-loop-j l = Keeps l.initial.pass l.pass × ((k : ℕ) → k < l.j → at_home l.pass (asked l.key) k ≢ Some (asked l.key))
