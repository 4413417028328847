use Rattle.std.proofs.Common.{take}
use Rattle.script_text.specs.Script.{SpellsEach}
use Rattle.script_text.proofs.reading.script_lines.Given as goal

abbrev pub invariant-loop-line : goal.invariant-loop-line
invariant-loop-line l = SpellsEach l.counts (take l.line-index l.lines) l.script
