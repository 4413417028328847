use Rattle.std.proofs.Common.{refl}
use Rattle.fare_calendar.proofs.CellLines.{all_lines, no_line, one_line, whole_calendar}
use Rattle.fare_calendar.proofs.text.push_calendar.Goals as goal

pub loop-cell-init : goal.loop-cell-init
loop-cell-init c = no_line _

pub loop-cell-preserved : goal.loop-cell-preserved
loop-cell-preserved c =
    one_line c.args.cells.now c.loop-cell.cell-index _ _ c.push_spans.new.text.items c.loop-cell.text.items c.push_cell.new.text.items c.loop-cell-test.true refl c.loop-cell.invariant c.in_ok-push_cell.ensures

pub returns : goal.returns
returns c =
    whole_calendar c.args.spans c.args.cells.now c.args.text.now.items c.push_spans.new.text.items c.loop-cell.text.items c.in_ok-push_spans.ensures
    (all_lines c.args.cells.now c.loop-cell.cell-index c.push_spans.new.text.items c.loop-cell.text.items c.loop-cell-test.false c.loop-cell.invariant)
