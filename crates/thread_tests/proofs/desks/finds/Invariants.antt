use Rattle.std.proofs.Common.{◌≡◌}
use Rattle.thread_tests.proofs.desks.finds.Given as goal

-- the desk is of the clerk's house and of the store, and the clerk stays in its house
abbrev pub invariant-loop-step : goal.invariant-loop-step
invariant-loop-step g l = record {
  cells : l.desk.pass.cells ≡ l.store;
  house : l.desk.sight.house ≡ l.clerk.house;
  same : l.clerk.house ≡ l.initial.clerk.house;
}
