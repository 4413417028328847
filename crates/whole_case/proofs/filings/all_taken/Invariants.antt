use Rattle.whole_case.proofs.FiledLines.{GoesOn}
use Rattle.whole_case.proofs.filings.all_taken.Given as goal

abbrev pub invariant-loop-line : goal.invariant-loop-line
invariant-loop-line l = GoesOn l.fn.book l.lines l.book l.line-index
