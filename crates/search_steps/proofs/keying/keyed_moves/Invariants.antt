use Rattle.std.proofs.Common.{◌≡◌, ◌++◌, drop, map}
use Rattle.residual_table.specs.Keys.{IsLive, residual_at}
use Rattle.search_steps.specs.LeastMoves.{LeaveLive, least_as}
use Rattle.search_steps.proofs.keying.keyed_moves.Given as goal

abbrev pub invariant-loop-least : goal.invariant-loop-least
invariant-loop-least g l = record {
  same : map (least_as (residual_at l.keyed.numbers.now)) l.moves ++ drop l.least-index l.found ≡ l.found;
  live : LeaveLive (IsLive l.keyed.numbers.now) l.moves;
}
