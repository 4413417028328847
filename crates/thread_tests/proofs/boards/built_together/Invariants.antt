use Rattle.std.proofs.Common.{◌≡◌}
use Rattle.thread_tests.proofs.boards.built_together.Given as goal

abbrev pub invariant-loop : goal.invariant-loop
invariant-loop g l = l.pass ≡ l.initial.pass
