use Rattle.std.proofs.Common.{◌≡◌, ◌∙◌, true, get_or, take, None, ap, sym, subst, arith}
use Rattle.std.proofs.lemmas.Option.{get_or_from_slice_get, slice_get_within}
use Rattle.certificate.specs.BoundCheck.{BoundRight}
use Rattle.certificate.specs.declared.parts.CertRow.{CertRow}
use Rattle.certificate_check.proofs.AllowedBounds.{right_told}
use Rattle.certificate_check.proofs.ByNumbers.{key_got}
use Rattle.certificate_check.proofs.FromFront.{all_next, wrong_at}
use Rattle.certificate_check.proofs.LaterSteps.{has_still, entry_still, later_still, same_steps}
use Rattle.certificate_check.proofs.RowTables.{as_many}
use Rattle.search_steps.specs.Keys.{live, state}
use Rattle.certificate.proofs.SomeFailure.{all_none}
use Rattle.certificate_check.proofs.bounding.bounds_fail.Goals as goal

pub loop-i-init : goal.loop-i-init
loop-i-init c = record {
  later = same_steps c.args.steps.now;
  right = all_none (BoundRight c.args.steps.now.case.book.now c.args.steps.now.case.request.now c.args.table.now.rows.now);
}

pub returns-then-not-branch-clause-fails : goal.returns-then-not-branch-clause-fails
returns-then-not-branch-clause-fails c =
    let b = c.args.steps.now.case.book.now in
    let q = c.args.steps.now.case.request.now in
    let rows = c.args.table.now.rows.now in
    let case = c.loop-i.invariant.later.case in
    let row = c.row.result in
    let is : row ≡ get_or rows c.loop-i.i row = sym (get_or_from_slice_get rows c.loop-i.i row row c.row.ensures) in
    let told = right_told b _ q _ rows (take c.loop-i.i rows) row c.in_ok-is_right.field-0 case.book case.request c.in_ok-is_right.ensures.right in
    wrong_at (BoundRight b q rows) rows c.loop-i.i row (slice_get_within rows c.loop-i.i row c.row.ensures) is c.loop-i.invariant.right (λ r. let t = told.1 r in let denied = c.if-not-branch.true in cc)

pub loop-i-preserved : goal.loop-i-preserved
loop-i-preserved c =
    let b = c.args.steps.now.case.book.now in
    let q = c.args.steps.now.case.request.now in
    let rows = c.args.table.now.rows.now in
    let case = c.loop-i.invariant.later.case in
    let row = c.row.result in
    let is : row ≡ get_or rows c.loop-i.i row = sym (get_or_from_slice_get rows c.loop-i.i row row c.row.ensures) in
    let told = right_told b _ q _ rows (take c.loop-i.i rows) row c.in_ok-is_right.field-0 case.book case.request c.in_ok-is_right.ensures.right in
    let agreed : c.in_ok-is_right.field-0 ≡ true = cc in record {
      later = later_still c.args.steps.now c.loop-i.steps c.is_right.new.steps c.loop-i.invariant.later c.in_ok-is_right.ensures.later;
      right = all_next (BoundRight b q rows) rows c.loop-i.i row (slice_get_within rows c.loop-i.i row c.row.ensures) is c.loop-i.invariant.right (told.0 agreed);
    }

pub is_right-requires-clause-table : goal.is_right-requires-clause-table
is_right-requires-clause-table c = has_still c.args.steps.now c.loop-i.steps c.loop-i.invariant.later.keeps c.args.table.now.bounds c.args.table.now.rows.now c.requires.table

pub key-requires : goal.key-requires
key-requires c =
    let many = as_many (state c.args.steps.now) c.args.table.now.bounds c.args.table.now.rows.now c.requires.table.same in
    let below = slice_get_within c.args.table.now.rows.now c.loop-i.i c.row.result c.row.ensures in
    omega (arith, many, below)

pub is_right-requires-clause-live : goal.is_right-requires-clause-live
is_right-requires-clause-live c =
    let rows = c.args.table.now.rows.now in
    let told = entry_still c.args.steps.now c.loop-i.steps c.loop-i.invariant.later.keeps c.args.table.now.bounds rows c.requires.table c.loop-i.i (c.key.result, None) c.row.result (slice_get_within rows c.loop-i.i c.row.result c.row.ensures) in
    subst (live c.loop-i.steps) (key_got c.args.table.now.bounds c.loop-i.i c.key.result (c.key.result, None) c.key.ensures) told.0

pub is_right-requires-clause-state : goal.is_right-requires-clause-state
is_right-requires-clause-state c =
    let rows = c.args.table.now.rows.now in
    let told = entry_still c.args.steps.now c.loop-i.steps c.loop-i.invariant.later.keeps c.args.table.now.bounds rows c.requires.table c.loop-i.i (c.key.result, None) c.row.result (slice_get_within rows c.loop-i.i c.row.result c.row.ensures) in
    ap (state c.loop-i.steps) (sym (key_got c.args.table.now.bounds c.loop-i.i c.key.result (c.key.result, None) c.key.ensures)) ∙ (told.1 ∙ ap (λ (row : CertRow). row.residual) (get_or_from_slice_get rows c.loop-i.i c.row.result c.row.result c.row.ensures))
