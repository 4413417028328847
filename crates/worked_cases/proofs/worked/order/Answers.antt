-- The case's lemmas.
use Rattle.std.proofs.Common.{refl, inl, inr, arith}
use Rattle.worked_cases.proofs.worked.order.Goals as goal

pub returns-clause-less : goal.returns-clause-less
returns-clause-less c = inr (refl, inr (refl, inr (refl, inr (refl, inl (omega arith)))))

pub returns-clause-cheaper : goal.returns-clause-cheaper
returns-clause-cheaper c = inl (omega arith)

pub returns-clause-number : goal.returns-clause-number
returns-clause-number c = refl

pub returns-clause-carrier : goal.returns-clause-carrier
returns-clause-carrier c = refl
