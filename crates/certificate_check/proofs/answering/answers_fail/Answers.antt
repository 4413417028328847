use Rattle.std.proofs.Common.{◌≡◌, true, get_or, arith}
use Rattle.certificate.specs.AnswerCheck.{AnswerRight}
use Rattle.certificate_check.proofs.FromFront.{all_next, take_length, wrong_at}
use Rattle.certificate.proofs.SomeFailure.{all_none}
use Rattle.certificate_check.proofs.answering.answers_fail.Goals as goal

pub loop-i-init : goal.loop-i-init
loop-i-init c = record { few = omega arith; right = all_none (AnswerRight c.args.book.now c.args.request.now) }

pub returns-then-not-is_right : goal.returns-then-not-is_right
returns-then-not-is_right c =
    let answers = c.args.answers.now in
    let i = c.loop-i.i in
    let a = c.index-answers-i.result in
    let is : a ≡ get_or answers i a = c.index-answers-i.is in
    wrong_at (AnswerRight c.args.book.now c.args.request.now) answers i a c.loop-i-test.true is c.loop-i.invariant.right (λ r. let t = c.is_right.ensures.1 r in cc)

pub loop-i-preserved : goal.loop-i-preserved
loop-i-preserved c =
    let answers = c.args.answers.now in
    let i = c.loop-i.i in
    let a = c.index-answers-i.result in
    let is : a ≡ get_or answers i a = c.index-answers-i.is in
    let so : c.is_right.result ≡ true = cc in
    let right = c.is_right.ensures.0 so in record {
      few = let f = right.few in let l = take_length answers i (omega arith) in omega (arith, f, l);
      right = all_next (AnswerRight c.args.book.now c.args.request.now) answers i a c.loop-i-test.true is c.loop-i.invariant.right right;
    }
