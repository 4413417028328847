use Rattle.std.proofs.Common.{rules}
use Rattle.case_text.proofs.rows.flight_fields.Goals as goal

pub returns-clause-limits : goal.returns-clause-limits
returns-clause-limits c = record {
  carrier = search rules;
  number = search rules;
  from = search rules;
  to = search rules;
  dep = search rules;
  dep_offset = search rules;
  arr = search rules;
  arr_offset = search rules;
  shift = search rules;
  first = search rules;
  last = search rules;
  days = search rules;
}
