use Rattle.std.proofs.Common.{subst}
use Rattle.graph_walk.specs.Steps.{TellsStates}
use Rattle.residual_table.specs.contracts.key.ResidualKeyPartialEq.TheImpl as key
use Rattle.residual_table.specs.Keys.{IsLive, residual_at}
use Rattle.search_steps.specs.Numbers.{Numbered}
use Rattle.search_steps.proofs.RowsByNumber.{tells_states}
use Rattle.search_steps.proofs.numbered_case.NumberedCase.keys_tell.Goals as goal

pub returns : goal.returns
returns c = subst (λ (n : Numbered). TellsStates (IsLive n.numbers) (residual_at n.numbers) key.ghosts.eq) c.self.view_is (tells_states c.self.inside.lists.numbers key.ghosts.eq c.keys_tell.ensures)
