use Rattle.std.proofs.Common.{◌∙◌}
use Rattle.certificate_check.proofs.ByNumbers.{entries_have}
use Rattle.certificate_check.proofs.checking.check.Goals as goal

pub check_by-requires-clause-has : goal.check_by-requires-clause-has
check_by-requires-clause-has c =
    entries_have c.over-steps.result c.by_number.result.parts.now c.by_number.result.rows.now c.args.certificate.now.rows (c.over-steps.ensures.numbers ∙ c.in_ok-copied.ensures) c.by_number.ensures.live c.by_number.ensures.same
