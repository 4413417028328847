use Rattle.certificate_check.specs.Tables.{entries_of}
use Rattle.certificate_check.proofs.RowTables.{keys_differ}
use Rattle.search_steps.specs.Keys.{live, state}
use Rattle.certificate_check.proofs.table.table_of.Goals as goal

pub of-requires : goal.of-requires
of-requires c = keys_differ (live c.args.steps.now) (state c.args.steps.now) _ c.keys_tell.ensures (entries_of c.args.numbered.now) c.args.rows.now c.requires.has.live c.requires.has.same c.requires.differ
