use Rattle.std.proofs.Common.{◌≡◌, take}
use Rattle.case_text.specs.Cut.{plain_line}
use Rattle.case_text.proofs.fields.is_plain.Given as goal

abbrev pub invariant-loop-i : goal.invariant-loop-i
invariant-loop-i l = l.plain ≡ plain_line (take l.i l.line)
