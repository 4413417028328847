use Rattle.residual_keys.proofs.CodesOfRuns.{run_has_code}
use Rattle.residual_keys.proofs.NamesKept.{chosen_written, reached_written, root_written}
use Rattle.residual_keys.proofs.laws.reached_is_written.Goals as goal

pub returns-clause-root : goal.returns-clause-root
returns-clause-root c = λ b q limits request. root_written c.rules_stay_in_range.ensures b q limits request

pub returns-clause-moves : goal.returns-clause-moves
returns-clause-moves c = λ b q limits request. chosen_written c.rules_stay_in_range.ensures b q limits request

pub returns-clause-reached : goal.returns-clause-reached
returns-clause-reached c = λ b q limits request. reached_written c.rules_stay_in_range.ensures b q limits request

pub returns-clause-codes : goal.returns-clause-codes
returns-clause-codes c = λ b q limits six. run_has_code b q limits.fares.keys limits.few six
