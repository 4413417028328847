use Rattle.std.proofs.Common.{refl}
use Rattle.certificate_check.proofs.AllowedBounds.{allowed_told}
use Rattle.certificate_check.proofs.LaterSteps.{has_still}
use Rattle.search_steps.specs.Keys.{state}
use Rattle.certificate_check.proofs.bounding.is_right.Goals as goal

pub all_allow-right-requires-clause-table : goal.all_allow-right-requires-clause-table
all_allow-right-requires-clause-table c = has_still c.args.steps.now c.outcomes.new.self c.in_ok-outcomes.ensures.keeps c.args.table.now.bounds c.args.table.now.rows.now c.requires.table

pub returns-clause-right : goal.returns-clause-right
returns-clause-right c =
    let told = c.in_ok-outcomes.ensures in
    allowed_told (state c.outcomes.new.self) _ _ _ _ c.args.table.now.rows.now c.args.row.now _ c.in_ok-outcomes.outcomes.items c.as_slice.result.now c.all_allow-right.result refl refl c.requires.state c.as_slice.ensures.value told.outcomes c.all_allow-right.ensures
