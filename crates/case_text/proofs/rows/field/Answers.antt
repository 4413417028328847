use Rattle.std.proofs.Common.{sym}
use Rattle.case_text.proofs.Columns.{field_some, field_none}
use Rattle.case_text.proofs.rows.field.Goals as goal

pub returns-in-Some : goal.returns-in-Some
returns-in-Some c = field_some _ _ c.in-Some.field.now (sym c.in-Some.ensures.value)

pub returns-in-None : goal.returns-in-None
returns-in-None c = field_none _ _ (sym c.in-None.ensures.value)
