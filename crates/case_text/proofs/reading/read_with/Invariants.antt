use Rattle.std.proofs.Common.{◌≡◌, ◌≤◌, drop, map}
use Rattle.case_text.specs.Entries.{case_read}
use Rattle.case_text.specs.Limits.{HasRows}
use Rattle.case_text.specs.Lines.{shown}
use Rattle.case_text.specs.Readers.{Follows}
use Rattle.case_text.proofs.Growing.{from_line}
use Rattle.case_text.proofs.reading.read_with.Given as goal

abbrev pub invariant-loop-line : goal.invariant-loop-line
invariant-loop-line g l = record {
  few : l.standing.count ≤ l.line-index;
  rows : HasRows l.case;
  rest : from_line l.kind l.next l.standing l.case l.line-index l.lines ≡ case_read l.kind l.next (map shown l.lines);
  ahead : Follows g.R.Read.remaining l.in_step l.reader (map shown (drop l.line-index l.lines));
}
