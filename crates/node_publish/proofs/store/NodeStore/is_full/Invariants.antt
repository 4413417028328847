use Rattle.node_publish.specs.Homes.{Keeps}
use Rattle.node_publish.proofs.Filling.{AreSet}
use Rattle.node_publish.proofs.store.NodeStore.is_full.Given as goal

abbrev pub invariant-loop-j : goal.invariant-loop-j
invariant-loop-j l = Keeps l.initial.pass l.pass × AreSet l.pass l.home l.j
