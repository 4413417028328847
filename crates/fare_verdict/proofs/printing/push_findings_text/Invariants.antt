use Rattle.std.proofs.Common.{◌≡◌, ◌++◌, flat_map, take}
use Rattle.fare_verdict.specs.FindingsText.{finding_line}
use Rattle.fare_verdict.proofs.printing.push_findings_text.Given as goal

abbrev pub invariant-loop-finding : goal.invariant-loop-finding
invariant-loop-finding l = l.text.items ≡ l.initial.text.items ++ flat_map finding_line (take l.finding-index l.findings)
