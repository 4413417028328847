-- The case's lemmas.
use Rattle.std.proofs.Common.{refl, arith}
use Rattle.worked_cases.proofs.Others.{no_jaw, jaw, other_jaw, two_gaps, all_forward}
use Rattle.worked_cases.proofs.worked.units.Goals as goal

pub returns-clause-round_trip : goal.returns-clause-round_trip
returns-clause-round_trip c = (refl, (refl, refl), ((refl, refl), tt))

pub returns-clause-no_jaw : goal.returns-clause-no_jaw
returns-clause-no_jaw c = no_jaw

pub returns-clause-jaw : goal.returns-clause-jaw
returns-clause-jaw c = jaw

pub returns-clause-other_jaw : goal.returns-clause-other_jaw
returns-clause-other_jaw c = other_jaw

pub returns-clause-two_gaps : goal.returns-clause-two_gaps
returns-clause-two_gaps c = two_gaps

pub returns-clause-circle : goal.returns-clause-circle
returns-clause-circle c = (omega arith, omega arith, (refl, (refl, refl)), (refl, (refl, tt)), refl)

pub returns-clause-all_forward : goal.returns-clause-all_forward
returns-clause-all_forward c = all_forward

pub returns-clause-no_circle : goal.returns-clause-no_circle
returns-clause-no_circle c = λ h. omega (arith, h.0)
