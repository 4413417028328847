use Rattle.std.proofs.Common.{◌≡◌, ◌+◌, ◌++◌, drop}
use Rattle.serving.specs.Lines.{each_line, refusal_line}
use Rattle.serving.proofs.headings.push_refusals.Given as goal

-- with the lines that are left the text is whole
abbrev pub invariant-loop-at : goal.invariant-loop-at
invariant-loop-at l = l.text.items ++ each_line refusal_line (l.at + 1) (drop l.at l.filed) ≡ l.initial.text.items ++ each_line refusal_line 1 l.filed
