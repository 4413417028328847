use Rattle.std.proofs.Common.{◌≡◌, ◌∙◌, ◌+◌, ◌<◌, ℕ, sym, subst, arith}
use Rattle.fare_calendar.specs.Cells.{cell}
use Rattle.fare_calendar.specs.Sharing.{IsLike}
use Rattle.fare_calendar.specs.Columns.{AreNumbered}
use Rattle.fare_law.specs.Limits.{IsRequest}
use Rattle.fare_law.specs.declared.requests.Request.{Request}
use Rattle.fare_calendar.proofs.CellRequests.{cell_is, cell_like, column_is, few_outs, out_within}
use Rattle.fare_calendar.proofs.DayPairs.{ValueOn, none_numbered, one_numbered}
use Rattle.fare_calendar.proofs.columns.values_on.Goals as goal

pub loop-later-init : goal.loop-later-init
loop-later-init c =
    let a = c.args.asked.now in
    let Is = ValueOn a.book.now a.request.now a.budget c.args.outs c.args.back in
    record {
      book = c.requires.book;
      request = c.requires.request;
      values = subst (AreNumbered Is 0) (sym c.new-values.ensures) (none_numbered Is);
    }

pub overflow_add-out : goal.overflow_add-out
overflow_add-out c =
    let within = c.requires.days.within in
    let later = c.loop-later-test.true in
    let most = few_outs c.args.asked.now.request.now c.args.asked.now.spans c.requires.asked in
    omega (arith, within, later, most)

pub value_on-requires-clause-asked : goal.value_on-requires-clause-asked
value_on-requires-clause-asked c = c.requires.asked

pub value_on-requires-clause-book : goal.value_on-requires-clause-book
value_on-requires-clause-book c = c.loop-later.invariant.book

pub value_on-requires-clause-steps : goal.value_on-requires-clause-steps
value_on-requires-clause-steps c =
    let a = c.args.asked.now in
    let d = c.requires.days in
    let first : c.args.outs.first < a.spans.outs = let s = d.some in let w = d.within in omega (arith, s, w) in
    subst IsRequest (sym c.loop-later.invariant.request) (column_is a.request.now a.spans c.args.outs c.args.back c.requires.asked first d.some d.few c.requires.back)

pub value_on-requires-clause-like : goal.value_on-requires-clause-like
value_on-requires-clause-like c =
    let a = c.args.asked.now in
    let out = c.args.outs.first + c.loop-later.later in
    subst (λ (q : Request). IsLike q (cell a.request.now out c.args.back)) (sym c.loop-later.invariant.request) (cell_like a.request.now c.args.outs out c.args.back c.requires.asked.two)

pub value_on-requires-clause-cell : goal.value_on-requires-clause-cell
value_on-requires-clause-cell c =
    let a = c.args.asked.now in
    cell_is a.request.now a.spans (c.args.outs.first + c.loop-later.later) c.args.back c.requires.asked (out_within a.spans c.args.outs c.loop-later.later c.requires.days c.loop-later-test.true) c.requires.back

pub loop-later-preserved : goal.loop-later-preserved
loop-later-preserved c =
    let a = c.args.asked.now in
    let Is = ValueOn a.book.now a.request.now a.budget c.args.outs c.args.back in
    record {
      book = c.in_ok-value.ensures.case.book ∙ c.loop-later.invariant.book;
      request = c.in_ok-value.ensures.case.request ∙ c.loop-later.invariant.request;
      values = subst (AreNumbered Is (c.loop-later.later + 1)) (sym c.in_ok-push.ensures.items) (one_numbered Is c.loop-later.later c.loop-later.values c.in_ok-value.value c.loop-later.invariant.values c.in_ok-value.ensures.value);
    }

pub returns : goal.returns
returns c =
    let a = c.args.asked.now in
    let end = c.loop-later.auto.later-end in
    let test = c.loop-later-test.false in
    let all : c.loop-later.later ≡ c.args.outs.count = omega (arith, end, test) in
    subst (λ (n : ℕ). AreNumbered (ValueOn a.book.now a.request.now a.budget c.args.outs c.args.back) n c.loop-later.values) all c.loop-later.invariant.values
