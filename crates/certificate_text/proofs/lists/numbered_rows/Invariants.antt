use Rattle.std.proofs.Common.{◌≤◌, ◌-◌, length, map}
use Rattle.certificate.specs.NumberedRows.{AreLive, rows_of}
use Rattle.certificate_text.specs.Faults.{Passed, rows_due}
use Rattle.certificate_text.specs.Lines.{IsRow, row_line}
use Rattle.certificate_text.specs.Unread.{HasRoom, unread}
use Rattle.fare_law.specs.Lists.{Each}
use Rattle.certificate_text.proofs.lists.numbered_rows.Given as goal

-- the rows so far were passed, and the others are due
abbrev pub invariant-loop-at : goal.invariant-loop-at
invariant-loop-at l = record {
  few : length l.rows ≤ l.count;
  live : AreLive l.reader l.rows;
  passed : Passed (rows_due l.count) (unread l.initial.at) (map row_line (rows_of l.reader l.rows)) (rows_due (l.count - length l.rows)) (unread l.at);
  each : Each IsRow (rows_of l.reader l.rows);
  room : HasRoom (unread l.at);
}

abbrev pub decreases-loop-at : goal.decreases-loop-at
decreases-loop-at l = l.count - length l.rows
