-- The theorems of their own files, from the order by price and code.
use Rattle.certificate.proofs.OneFirst.{one_failure}
use Rattle.certificate.proofs.SomeFailure.{some_failure}
use Rattle.ticket_order.proofs.Words.{before_never, before_total, before_trans}
use Rattle.certificate.proofs.laws.one_failure.Goals as goal

pub returns : goal.returns
returns c = λ x b q. one_failure x b q (some_failure before_never before_trans before_total x b q)
