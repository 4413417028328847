use Rattle.std.proofs.Common.{◌∙◌}
use Rattle.law_lemmas.proofs.Lists.{read_got}
use Rattle.fare_calendar.proofs.cells.column_at.Goals as goal

pub returns : goal.returns
returns c = read_got c.args.columns.now c.args.back c.index-columns-back.result c.as_slice.result.now c.requires (c.as_slice.ensures ∙ c.index-columns-back.is)
