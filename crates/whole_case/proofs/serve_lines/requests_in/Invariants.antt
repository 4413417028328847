use Rattle.whole_case.specs.ServeCases.{asked_in}
use Rattle.whole_case.proofs.EachLine.{LeadsOn}
use Rattle.whole_case.proofs.serve_lines.requests_in.Given as goal

abbrev pub invariant-loop-line : goal.invariant-loop-line
invariant-loop-line l = LeadsOn (asked_in l.fn.best l.book) l.lines l.requests l.line-index
