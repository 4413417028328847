use Rattle.std.proofs.Common.{◌≡◌, ◌<◌, ◌≤◌, ◌-◌, ◌^◌, ℕ, List, map, [], ◌∷◌, length, ap, sym, subst, arith, refl, length-append}
use Rattle.std.specs.Prelude.{codes}
use Rattle.certificate.specs.declared.parts.CertAnswer.{CertAnswer}
use Rattle.certificate_text.specs.Faults.{Answer, AnswerCount, Due, Passed, RowCount, answers_due}
use Rattle.certificate_text.specs.Lines.{IsAnswer, answer_line, number_line}
use Rattle.certificate_text.specs.Unread.{unread}
use Rattle.fare_law.specs.Lists.{Each}
use Rattle.certificate_text.proofs.FaultLemmas.{passed_more, room_after}
use Rattle.certificate_text.proofs.ListLemmas.{DueAfter, item_fault, item_passed}
use Rattle.certificate_text.proofs.TakingLemmas.{room_all}
use Rattle.law_lemmas.proofs.EachOne.{each_append}
use Rattle.certificate_text.proofs.lists.answers.Goals as goal

due_after : DueAfter answers_due Answer
due_after = record { more = λ n. refl }

pub returns-in-Err-clause-fault : goal.returns-in-Err-clause-fault
returns-in-Err-clause-fault c =
    item_fault answers_due Answer answer_line due_after (answers_due c.in_ok-count.count) AnswerCount (unread c.args.start) (unread c.in_ok-count.first) (unread c.loop-at.at) c.in_ok-count.count
    (number_line (codes "answers") c.in_ok-count.count ∷ []) c.loop-at.answers c.in-Err.fault (omega (arith, c.len.ensures)) c.in_ok-count.ensures.ok c.loop-at.invariant.passed c.in-Err.ensures.fault

pub loop-at-preserved : goal.loop-at-preserved
loop-at-preserved c =
    let few : length c.loop-at.answers < c.in_ok-count.count = omega (arith, c.len.ensures) in
    let is = c.in_ok-push.ensures.items in
    record {
      few = omega (arith, few, ap length is, length-append c.loop-at.answers (c.in-Ok.found.0 ∷ []));
      passed = item_passed answers_due Answer answer_line due_after (answers_due c.in_ok-count.count) (unread c.in_ok-count.first) (unread c.loop-at.at) (unread c.in-Ok.found.1)
          c.in_ok-count.count c.loop-at.answers c.push.new.self c.in-Ok.found.0 is few c.loop-at.invariant.passed c.in-Ok.ensures.ok;
      each = subst (Each IsAnswer) (sym is) (each_append IsAnswer c.loop-at.answers (c.in-Ok.found.0 ∷ []) c.loop-at.invariant.each (c.in-Ok.ensures.fits, tt));
      room = room_all (unread c.loop-at.at) (unread c.in-Ok.found.1) (answer_line c.in-Ok.found.0 ∷ []) (c.in-Ok.ensures.ok 0).taken c.loop-at.invariant.room;
    }

pub loop-at-init : goal.loop-at-init
loop-at-init c =
    let count = c.in_ok-count.count in
    let first = unread c.in_ok-count.first in
    let none = sym c.new-answers.ensures in
    let left : count ≡ count - 0 = omega arith in
    record {
      few = subst (λ (xs : List CertAnswer). length xs ≤ count) none (omega arith);
      passed = subst (λ (xs : List CertAnswer). Passed (answers_due count) first (map answer_line xs) (answers_due (count - length xs)) first) none (record { leads = ap answers_due left; taken = refl });
      each = subst (Each IsAnswer) none tt;
      room = room_after c.in_ok-count.ensures.ok c.requires;
    }

pub returns-clause-ok : goal.returns-clause-ok
returns-clause-ok c =
    let count = c.in_ok-count.count in
    let start = unread c.args.start in
    let at = unread c.loop-at.at in
    let answers = c.loop-at.answers in
    let none : count - length answers ≡ 0 = omega (arith, c.len.ensures) in
    let many : count ≡ length answers = omega (arith, c.len.ensures, c.loop-at.invariant.few) in
    let passed = subst (λ (due : Due). Passed AnswerCount start (number_line (codes "answers") count ∷ map answer_line answers) due at) (ap answers_due none) (passed_more c.in_ok-count.ensures.ok c.loop-at.invariant.passed) in
    subst (λ (n : ℕ). Passed AnswerCount start (number_line (codes "answers") n ∷ map answer_line answers) RowCount at) many passed

pub returns-clause-fits : goal.returns-clause-fits
returns-clause-fits c =
    let many : c.in_ok-count.count ≡ length c.loop-at.answers = omega (arith, c.len.ensures, c.loop-at.invariant.few) in
    (c.loop-at.invariant.each, subst (λ (n : ℕ). n < 2 ^ 32) many c.in_ok-count.ensures.fits)
