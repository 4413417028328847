use Rattle.std.proofs.Common.{take}
use Rattle.fare_calendar.proofs.CellLines.{AddedLines}
use Rattle.fare_calendar.proofs.text.push_calendar.Given as goal

-- the cells so far have their lines
abbrev pub invariant-loop-cell : goal.invariant-loop-cell
invariant-loop-cell l = AddedLines (take l.cell-index l.cells) l.initial.text.items l.text.items
