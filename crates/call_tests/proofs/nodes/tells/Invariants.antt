use Rattle.std.proofs.Common.{◌≡◌}
use Rattle.call_tests.proofs.nodes.tells.Given as goal

abbrev pub invariant-loop-deed : goal.invariant-loop-deed
invariant-loop-deed l = l.pass.cells ≡ l.store
