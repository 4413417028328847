use Rattle.std.proofs.Common.{◌≡◌, vec_len}
use Rattle.node_publish.proofs.store.NodeStore.new.Given as goal

abbrev pub invariant-loop : goal.invariant-loop
invariant-loop l = vec_len l.empty ≡ l.counter
