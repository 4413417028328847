use Rattle.std.proofs.Common.{◌≡◌, true, refl, subst, inl, inr}
use Rattle.certificate_check.specs.Fronts.{Takes}
use Rattle.certificate_check.proofs.EachSoFar.{in_at, in_next}
use Rattle.certificate_check.proofs.taking.is_taken.Goals as goal

pub returns-then-takes : goal.returns-then-takes
returns-then-takes c =
    let so : c.takes.result ≡ true = cc in
    (λ t. (c.answer-item.result, in_at c.args.answers.now c.loop-answer.answer-index c.answer-item.result c.loop-answer-test.true c.answer-item.is, c.takes.ensures.0 so), λ h. refl)

pub loop-answer-preserved : goal.loop-answer-preserved
loop-answer-preserved c = λ h. elim (in_next c.args.answers.now c.loop-answer.answer-index c.answer-item.result h.0 c.loop-answer-test.true c.answer-item.is h.1) [
  | inl i ↦ c.loop-answer.invariant (h.0, i, h.2)
  | inr e ↦ let t = c.takes.ensures.1 (subst (λ z. Takes z c.args.front.now c.args.mv.now) e h.2) in cc
]
