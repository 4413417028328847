use Rattle.std.proofs.Common.{◌≡◌, ◌+◌, ◌-◌, ◌<◌, ℕ, true, false, take, length, sym, subst, refl, arith}
use Rattle.certificate_check.specs.Fronts.{AnswerFails, AnswerHolds}
use Rattle.certificate_check.proofs.LaterSteps.{has_still, later_still, same_said, same_steps}
use Rattle.certificate_check.proofs.Onwards.{GoesOn, goes_to, has_price, steps_on}
use Rattle.certificate_check.proofs.RootAt.{leads_root}
use Rattle.certificate_check.proofs.Walking.{all_held, fails_there, front_false, front_of, front_true, hold_more, leads_on, same_answer, stopped}
use Rattle.fare_law.specs.declared.requests.Request.{Request}
use Rattle.fare_law.specs.Book.{Book}
use Rattle.residual_keys.specs.Residuals.{State}
use Rattle.certificate_check.proofs.departing.answer_holds.Goals as goal

pub loop-taken-init : goal.loop-taken-init
loop-taken-init c = record {
  later = same_steps c.args.steps.now;
  drawings = c.requires.drawings;
  leads = leads_root c.args.steps.now.case.book.now _ c.args.steps.now.case.request.now _ _ c.case-case.ensures.book c.case-case.ensures.request (let n = c.requires.request.count in omega (arith, n)) c.root-residual.ensures.root;
  small = omega arith;
  hold = λ n le lt. absurd (omega (arith, le, lt));
}

pub returns-in_default-clause-holds : goal.returns-in_default-clause-holds
returns-in_default-clause-holds c =
    let b = c.args.steps.now.case.book.now in
    let q = c.args.steps.now.case.request.now in
    let rows = c.args.table.now.rows.now in
    let answers = c.args.answers.now in
    let i = c.args.i in
    let x = c.index-answers-i.result in
    let ms = c.as_slice-moves.result.now in
    let e : ms ≡ x.moves = cc in
    let invariant = c.loop-taken.invariant in
    let taken = c.loop-taken.taken in
    let one = c.loop-taken.auto.taken in
    let cb = c.case-case.result.book.now in
    let cq = c.case-case.result.request.now in
    let r = c.loop-taken.residual in
    let m = c.index-moves-taken.result in
    let test = c.loop-taken-test.true in
    let lt : taken - 1 < length ms = omega (arith, test) in
    let never = λ (z : State) (k : ℕ) (g : GoesOn b q r m z k). c.in_default.ensures.none z (steps_on cb cq r m z k (same_said (λ (v : Book) (w : Request). GoesOn v w r m z k) cb b cq q (sym c.case-case.ensures.book) (sym c.case-case.ensures.request) g)) in
    λ a s. subst (AnswerHolds b q rows answers) (same_answer answers i x a c.requires.there c.index-answers-i.is s)
    (stopped b q rows answers x ms (taken - 1) r c.loop-taken.price m e lt c.index-moves-taken.is invariant.leads never (λ n le below. invariant.hold n le (omega (arith, below, one))))

pub returns-in_default-move_price-clause-holds : goal.returns-in_default-move_price-clause-holds
returns-in_default-move_price-clause-holds c =
    let b = c.args.steps.now.case.book.now in
    let q = c.args.steps.now.case.request.now in
    let rows = c.args.table.now.rows.now in
    let answers = c.args.answers.now in
    let i = c.args.i in
    let x = c.index-answers-i.result in
    let ms = c.as_slice-moves.result.now in
    let e : ms ≡ x.moves = cc in
    let invariant = c.loop-taken.invariant in
    let taken = c.loop-taken.taken in
    let one = c.loop-taken.auto.taken in
    let cb = c.case-case.result.book.now in
    let cq = c.case-case.result.request.now in
    let r = c.loop-taken.residual in
    let m = c.index-moves-taken.result in
    let test = c.loop-taken-test.true in
    let lt : taken - 1 < length ms = omega (arith, test) in
    let never = λ (z : State) (k : ℕ) (g : GoesOn b q r m z k). has_price cb cq r m z k (same_said (λ (v : Book) (w : Request). GoesOn v w r m z k) cb b cq q (sym c.case-case.ensures.book) (sym c.case-case.ensures.request) g) c.in_default-move_price.ensures.value in
    λ a s. subst (AnswerHolds b q rows answers) (same_answer answers i x a c.requires.there c.index-answers-i.is s)
    (stopped b q rows answers x ms (taken - 1) r c.loop-taken.price m e lt c.index-moves-taken.is invariant.leads never (λ n le below. invariant.hold n le (omega (arith, below, one))))

pub later_holds-requires-clause-front : goal.later_holds-requires-clause-front
later_holds-requires-clause-front c =
    let e : c.as_slice-moves.result.now ≡ c.index-answers-i.result.moves = cc in
    front_of c.args.steps.now.case.book.now c.args.steps.now.case.request.now c.args.table.now.rows.now c.args.answers.now c.args.i c.index-answers-i.result c.as_slice-moves.result.now c.loop-taken.taken
    c.requires.there c.index-answers-i.is e c.loop-taken-test.true

pub later_holds-requires-clause-leads : goal.later_holds-requires-clause-leads
later_holds-requires-clause-leads c =
    let b = c.args.steps.now.case.book.now in
    let q = c.args.steps.now.case.request.now in
    let rows = c.args.table.now.rows.now in
    let answers = c.args.answers.now in
    let i = c.args.i in
    let x = c.index-answers-i.result in
    let ms = c.as_slice-moves.result.now in
    let e : ms ≡ x.moves = cc in
    let invariant = c.loop-taken.invariant in
    let taken = c.loop-taken.taken in
    let one = c.loop-taken.auto.taken in
    let cb = c.case-case.result.book.now in
    let cq = c.case-case.result.request.now in
    let r = c.loop-taken.residual in
    let m = c.index-moves-taken.result in
    let test = c.loop-taken-test.true in
    let lt : taken - 1 < length ms = omega (arith, test) in
    let y = c.in-Some.after in
    let g = subst (λ (n : ℕ). GoesOn cb cq r m y n) (sym c.from.ensures) (goes_to cb cq r m y c.in-Some-move_price.cost c.in-Some.ensures.some c.in-Some-move_price.ensures.value) in
    leads_on b cb c.loop-taken.steps.case.book.now q cq c.loop-taken.steps.case.request.now ms (taken - 1) taken r y c.loop-taken.price c.from.result m c.case-case.ensures.book c.case-case.ensures.request invariant.later.case.book invariant.later.case.request
    (omega (arith, one)) lt c.index-moves-taken.is invariant.leads g

pub returns-then-not-branch-clause-holds : goal.returns-then-not-branch-clause-holds
returns-then-not-branch-clause-holds c =
    let b = c.args.steps.now.case.book.now in
    let q = c.args.steps.now.case.request.now in
    let rows = c.args.table.now.rows.now in
    let answers = c.args.answers.now in
    let i = c.args.i in
    let x = c.index-answers-i.result in
    let ms = c.as_slice-moves.result.now in
    let e : ms ≡ x.moves = cc in
    let invariant = c.loop-taken.invariant in
    let taken = c.loop-taken.taken in
    let one = c.loop-taken.auto.taken in
    let not_so : c.in_ok-later_holds.field-0 ≡ false = cc in
    let fails = front_false b _ q _ rows answers (take taken ms) c.in_ok-later_holds.field-0 invariant.later.case.book invariant.later.case.request not_so c.in_ok-later_holds.ensures.holds in
    λ a s. subst (AnswerFails b q rows answers) (same_answer answers i x a c.requires.there c.index-answers-i.is s) (fails_there b q rows answers x ms taken e one c.loop-taken-test.true fails)

pub loop-taken-preserved : goal.loop-taken-preserved
loop-taken-preserved c =
    let b = c.args.steps.now.case.book.now in
    let q = c.args.steps.now.case.request.now in
    let rows = c.args.table.now.rows.now in
    let answers = c.args.answers.now in
    let i = c.args.i in
    let x = c.index-answers-i.result in
    let ms = c.as_slice-moves.result.now in
    let e : ms ≡ x.moves = cc in
    let invariant = c.loop-taken.invariant in
    let taken = c.loop-taken.taken in
    let one = c.loop-taken.auto.taken in
    let cb = c.case-case.result.book.now in
    let cq = c.case-case.result.request.now in
    let r = c.loop-taken.residual in
    let m = c.index-moves-taken.result in
    let test = c.loop-taken-test.true in
    let lt : taken - 1 < length ms = omega (arith, test) in
    let y = c.in-Some.after in
    let g = subst (λ (n : ℕ). GoesOn cb cq r m y n) (sym c.from.ensures) (goes_to cb cq r m y c.in-Some-move_price.cost c.in-Some.ensures.some c.in-Some-move_price.ensures.value) in
    let so : c.in_ok-later_holds.field-0 ≡ true = cc in
    let now = front_true b _ q _ rows answers (take taken ms) c.in_ok-later_holds.field-0 invariant.later.case.book invariant.later.case.request so c.in_ok-later_holds.ensures.holds in
    let small = invariant.small in
    let low = c.in-Some-move_price.ensures.low in
    let cost = c.from.ensures in record {
      later = later_still c.args.steps.now c.loop-taken.steps c.later_holds.new.steps invariant.later c.in_ok-later_holds.ensures.later;
      drawings = c.in_ok-later_holds.ensures.drawings;
      leads =
          leads_on b cb b q cq q ms (taken - 1) (taken + 1 - 1) r y c.loop-taken.price c.from.result m c.case-case.ensures.book c.case-case.ensures.request refl refl (omega (arith, one)) lt c.index-moves-taken.is invariant.leads g;
      small = omega (arith, small, low, cost, one);
      hold = hold_more b q rows answers ms taken invariant.hold now;
    }

pub returns-clause-holds : goal.returns-clause-holds
returns-clause-holds c =
    let Holds = AnswerHolds c.args.steps.now.case.book.now c.args.steps.now.case.request.now c.args.table.now.rows.now c.args.answers.now in
    let e : c.as_slice-moves.result.now ≡ c.index-answers-i.result.moves = cc in
    let held = all_held c.args.steps.now.case.book.now c.args.steps.now.case.request.now c.args.table.now.rows.now c.args.answers.now c.index-answers-i.result c.as_slice-moves.result.now c.loop-taken.taken
    e c.loop-taken-test.false c.loop-taken.invariant.hold in
    λ a s. subst Holds (same_answer c.args.answers.now c.args.i c.index-answers-i.result a c.requires.there c.index-answers-i.is s) held

pub later_holds-requires-clause-table : goal.later_holds-requires-clause-table
later_holds-requires-clause-table c = has_still c.args.steps.now c.loop-taken.steps c.loop-taken.invariant.later.keeps c.args.table.now.bounds c.args.table.now.rows.now c.requires.table
