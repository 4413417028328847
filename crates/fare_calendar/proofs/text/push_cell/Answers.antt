use Rattle.fare_calendar.proofs.CellLines.{cell_line}
use Rattle.fare_calendar.proofs.text.push_cell.Goals as goal

pub returns : goal.returns
returns c =
    cell_line c.args.cell.now c.date_out-out.result c.date_back-back.result c.args.text.now.items c.extend_from_slice.new.self.items c.push_word.new.text.items c.push_word-2.new.text.items c.push_value.new.text.items c.push.new.self.items
    c.date_out-out.ensures c.date_back-back.ensures c.in_ok-extend_from_slice.ensures.items c.in_ok-push_word.ensures c.in_ok-push_word-2.ensures c.in_ok-push_value.ensures c.in_ok-push.ensures.items
