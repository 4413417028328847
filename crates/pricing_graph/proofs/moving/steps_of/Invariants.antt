use Rattle.std.proofs.Common.{◌≡◌, map, position, take}
use Rattle.std.specs.Map.{keys_of}
use Rattle.residual_table.specs.contracts.key.ResidualKeyPartialEq.TheImpl as key
use Rattle.pricing_graph.specs.Givers.{step_as}
use Rattle.pricing_graph.proofs.moving.steps_of.Given as goal

abbrev pub invariant-loop-mv : goal.invariant-loop-mv
invariant-loop-mv l = l.steps ≡ map (step_as (λ k. position (key.ghosts.eq k) (keys_of l.graph.rows.entries))) (take l.mv-index l.least)
