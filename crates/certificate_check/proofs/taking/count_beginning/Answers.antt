use Rattle.std.proofs.Common.{◌≡◌, ◌+◌, ℕ, true, false, take, sym, subst, arith}
use Rattle.certificate_check.specs.Fronts.{CountsBeginning}
use Rattle.certificate_check.proofs.Begins.{count_none, count_one}
use Rattle.certificate_check.proofs.taking.count_beginning.Goals as goal
use Rattle.certificate_check.proofs.taking.count_beginning.Goals.{then-begins_with, else-begins_with}
use Rattle.law_lemmas.proofs.Lists.{front_is}

pub loop-answer-preserved : goal.loop-answer-preserved
loop-answer-preserved c =
    let front = c.args.front.now in
    let xs = c.args.answers.now in
    let i = c.loop-answer.answer-index in
    let o = c.answer-item.result in
    let invariant = c.loop-answer.invariant in
    let more = front_is xs i o c.loop-answer-test.true c.answer-item.is in
    elim c.if-begins_with.branch [
      | then-begins_with w ↦
          let so : c.begins_with.result ≡ true = cc in
          let n = w.count-is in record {
            few = let f = invariant.few in omega (arith, n, f);
            counts = subst (λ (k : ℕ). CountsBeginning front (take (i + 1) xs) k) (sym n) (subst (λ z. CountsBeginning front z (c.loop-answer.count + 1)) (sym more) (count_one front (take i xs) o c.loop-answer.count invariant.counts (c.begins_with.ensures.0 so)));
          }
      | else-begins_with w ↦
          let so : c.begins_with.result ≡ false = cc in
          let n = w.count-is in record {
            few = let f = invariant.few in omega (arith, n, f);
            counts =
                subst (λ (k : ℕ). CountsBeginning front (take (i + 1) xs) k) (sym n) (subst (λ z. CountsBeginning front z c.loop-answer.count) (sym more) (count_none front (take i xs) o c.loop-answer.count invariant.counts (λ h. let t = c.begins_with.ensures.1 h in cc)));
          }
    ]
