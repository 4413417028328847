use Rattle.std.proofs.Common.{◌≡◌, ◌+◌, true, subst}
use Rattle.certificate.specs.InOrder.{FirstWrong}
use Rattle.certificate.specs.NumberedRows.{key_of, row_of}
use Rattle.certificate.specs.RowCheck.{RowRight}
use Rattle.certificate_check.proofs.ByNumbers.{all_mapped, no_row, wrong_mapped}
use Rattle.residual_table.specs.Keys.{IsLive}
use Rattle.certificate.proofs.SomeFailure.{all_none}
use Rattle.law_lemmas.proofs.EachOne.{holds_at}
use Rattle.certificate_check.proofs.rows.first_wrong.Goals as goal

pub loop-i-init : goal.loop-i-init
loop-i-init c = all_none (RowRight c.args.book.now c.args.request.now)

pub is_right-requires-clause-row : goal.is_right-requires-clause-row
is_right-requires-clause-row c = holds_at (λ n. IsLive c.by_number.result.parts.now (key_of n)) c.by_number.result.rows.now c.loop-i.i no_row c.loop-i-test.true c.by_number.ensures.live

pub returns-then-not-is_right : goal.returns-then-not-is_right
returns-then-not-is_right c =
    let right = RowRight c.args.book.now c.args.request.now in
    let i = c.loop-i.i in
    subst (λ rows. FirstWrong right rows (i + 1)) c.by_number.ensures.same
    (wrong_mapped (row_of c.by_number.result.parts.now) right c.by_number.result.rows.now i no_row c.loop-i-test.true c.loop-i.invariant (λ r. let t = c.is_right.ensures.1 r in let denied = c.if-not-is_right.true in cc))

pub loop-i-preserved : goal.loop-i-preserved
loop-i-preserved c =
    let so : c.is_right.result ≡ true = cc in
    all_mapped (row_of c.by_number.result.parts.now) (RowRight c.args.book.now c.args.request.now) c.by_number.result.rows.now c.loop-i.i no_row c.loop-i-test.true c.loop-i.invariant (c.is_right.ensures.0 so)
