use Rattle.std.proofs.Common.{◌≡◌, true, false, [], refl, arith}
use Rattle.certificate_check.specs.Fronts.{AnswerHolds}
use Rattle.certificate_check.proofs.Begins.{some_at}
use Rattle.certificate_check.proofs.EachSoFar.{each_done, each_next}
use Rattle.certificate_check.proofs.LaterSteps.{has_still, later_still}
use Rattle.certificate_check.proofs.RootAt.{leads_root}
use Rattle.certificate_check.proofs.Walking.{all_hold, answer_fails, answer_false, answer_true, front_true}
use Rattle.law_lemmas.proofs.Lists.{get_here}
use Rattle.certificate_check.proofs.departing.departures_fail.Goals as goal

pub front_holds-requires-clause-leads : goal.front_holds-requires-clause-leads
front_holds-requires-clause-leads c =
    leads_root c.args.steps.now.case.book.now _ c.args.steps.now.case.request.now _ _ c.case-case.ensures.book c.case-case.ensures.request (let n = c.requires.request.count in omega (arith, n)) c.root-residual.ensures.root

pub loop-i-init : goal.loop-i-init
loop-i-init c = record { later = c.in_ok-front_holds.ensures.later; drawings = c.in_ok-front_holds.ensures.drawings; hold = tt }

pub returns-then-not-branch-2-clause-fails : goal.returns-then-not-branch-2-clause-fails
returns-then-not-branch-2-clause-fails c =
    let b = c.args.steps.now.case.book.now in
    let q = c.args.steps.now.case.request.now in
    let rows = c.args.table.now.rows.now in
    let answers = c.args.answers.now in
    let i = c.loop-i.i in
    let invariant = c.loop-i.invariant in
    let so : c.in_ok-front_holds.field-0 ≡ true = cc in
    let not_so : c.in_ok-answer_holds.field-0 ≡ false = cc in
    let root = front_true b b q q rows answers [] c.in_ok-front_holds.field-0 refl refl so c.in_ok-front_holds.ensures.holds in
    let a = some_at answers i c.loop-i-test.true in
    let told = c.in_ok-answer_holds.ensures.holds a.0 (get_here answers i a.0 c.loop-i-test.true a.1) in
    answer_fails b q rows answers i a.0 c.loop-i-test.true a.1 root invariant.hold (answer_false b _ q _ rows answers a.0 c.in_ok-answer_holds.field-0 invariant.later.case.book invariant.later.case.request not_so told)

pub loop-i-preserved : goal.loop-i-preserved
loop-i-preserved c =
    let b = c.args.steps.now.case.book.now in
    let q = c.args.steps.now.case.request.now in
    let rows = c.args.table.now.rows.now in
    let answers = c.args.answers.now in
    let i = c.loop-i.i in
    let invariant = c.loop-i.invariant in
    let so : c.in_ok-answer_holds.field-0 ≡ true = cc in
    let a = some_at answers i c.loop-i-test.true in
    let told = c.in_ok-answer_holds.ensures.holds a.0 (get_here answers i a.0 c.loop-i-test.true a.1) in record {
      later = later_still c.args.steps.now c.loop-i.steps c.answer_holds.new.steps invariant.later c.in_ok-answer_holds.ensures.later;
      drawings = c.in_ok-answer_holds.ensures.drawings;
      hold = each_next (AnswerHolds b q rows answers) answers i a.0 c.loop-i-test.true a.1 invariant.hold (answer_true b _ q _ rows answers a.0 c.in_ok-answer_holds.field-0 invariant.later.case.book invariant.later.case.request so told);
    }

pub returns-clause-fails : goal.returns-clause-fails
returns-clause-fails c =
    let b = c.args.steps.now.case.book.now in
    let q = c.args.steps.now.case.request.now in
    let rows = c.args.table.now.rows.now in
    let answers = c.args.answers.now in
    let so : c.in_ok-front_holds.field-0 ≡ true = cc in
    let root = front_true b b q q rows answers [] c.in_ok-front_holds.field-0 refl refl so c.in_ok-front_holds.ensures.holds in
    all_hold b q rows answers root (each_done (AnswerHolds b q rows answers) answers c.loop-i.i c.loop-i-test.false c.loop-i.invariant.hold)

pub answer_holds-requires-clause-table : goal.answer_holds-requires-clause-table
answer_holds-requires-clause-table c = has_still c.args.steps.now c.loop-i.steps c.loop-i.invariant.later.keeps c.args.table.now.bounds c.args.table.now.rows.now c.requires.table
