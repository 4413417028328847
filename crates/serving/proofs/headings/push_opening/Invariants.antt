use Rattle.std.proofs.Common.{◌≡◌, ◌++◌}
use Rattle.serving.specs.Lines.{opening_lines}
use Rattle.serving.proofs.headings.push_opening.Given as goal

abbrev pub invariant-loop-before : goal.invariant-loop-before
invariant-loop-before l = l.text.items ≡ l.initial.text.items ++ opening_lines l.before
