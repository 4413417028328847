use Rattle.std.proofs.Common.{◌≡◌, ◌≤◌, ◌+◌, ◌++◌, length, map}
use Rattle.std.specs.Str.Lines.{lines}
use Rattle.case_text.specs.Lines.{numbered, shown, text_lines}
use Rattle.case_text.proofs.lines.numbered_lines.Given as goal

abbrev pub invariant-loop-rest : goal.invariant-loop-rest
invariant-loop-rest l = record {
  few : l.next + length l.rest ≤ length l.bytes + 1;
  cut : map shown l.lines.items ++ numbered l.next (lines l.rest) ≡ text_lines l.bytes;
  count : l.next + length (lines l.rest) ≡ length (lines l.bytes) + 1;
}

abbrev pub decreases-loop-rest : goal.decreases-loop-rest
decreases-loop-rest l = length l.rest
