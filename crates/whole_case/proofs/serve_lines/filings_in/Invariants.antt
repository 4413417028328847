use Rattle.fare_law.specs.FilingLimits.{IsFiling}
use Rattle.fare_law.specs.Lists.{Each}
use Rattle.whole_case.specs.Filings.{filing_in}
use Rattle.whole_case.proofs.EachLine.{LeadsOn}
use Rattle.whole_case.proofs.serve_lines.filings_in.Given as goal

abbrev pub invariant-loop-line : goal.invariant-loop-line
invariant-loop-line l = LeadsOn filing_in l.lines l.filings l.line-index × Each IsFiling l.filings
