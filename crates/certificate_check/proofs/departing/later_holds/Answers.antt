use Rattle.std.proofs.Common.{◌≡◌, true}
use Rattle.certificate_check.proofs.Walking.{had_holds}
use Rattle.certificate_check.proofs.departing.later_holds.Goals as goal

pub returns-then-is_had-clause-holds : goal.returns-then-is_had-clause-holds
returns-then-is_had-clause-holds c =
    let so : c.is_had.result ≡ true = cc in
    had_holds c.args.steps.now.case.book.now c.args.steps.now.case.request.now c.args.table.now.rows.now c.args.answers.now c.args.i c.args.front.now.moves.now c.requires.some c.requires.before (c.is_had.ensures.0 so)
