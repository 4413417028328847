-- The theorems of their own files.
use Rattle.residual_keys.proofs.Compared.{compared_before, compared_same}
use Rattle.residual_keys.proofs.Needed.{need_one}
use Rattle.residual_keys.proofs.Ordered.{states}
use Rattle.residual_keys.proofs.laws.residual_order.Goals as goal

pub returns-clause-order : goal.returns-clause-order
returns-clause-order c = states

pub returns-clause-before : goal.returns-clause-before
returns-clause-before c = compared_before

pub returns-clause-same : goal.returns-clause-same
returns-clause-same c = compared_same

pub returns-clause-need : goal.returns-clause-need
returns-clause-need c = need_one
