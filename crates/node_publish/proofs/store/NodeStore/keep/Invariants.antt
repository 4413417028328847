use Rattle.node_publish.specs.Homes.{Keeps}
use Rattle.node_publish.proofs.Keeping.{TakenBelow}
use Rattle.node_publish.proofs.store.NodeStore.keep.Given as goal

abbrev pub invariant-loop-j : goal.invariant-loop-j
invariant-loop-j l = Keeps l.initial.pass l.pass × TakenBelow l.pass l.node l.j
