use Rattle.std.proofs.Common.{◌≡◌, ◌++◌, map}
use Rattle.case_text.specs.Lines.{shown}
use Rattle.case_text.specs.Readers.{row_text}
use Rattle.case_text.proofs.Feed.{text_from}
use Rattle.case_text.proofs.feeding.row_text.Given as goal

abbrev pub invariant-loop-line : goal.invariant-loop-line
invariant-loop-line l = l.text.items ++ text_from l.line-index l.lines ≡ row_text (map shown l.lines)
