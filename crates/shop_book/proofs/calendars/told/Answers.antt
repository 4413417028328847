use Rattle.std.proofs.Common.{◌≡◌, ◌++◌, codes, decimal, rules, subst, sym}
use Rattle.answer_text.specs.Lines.{Adds}
use Rattle.fare_calendar.specs.CalendarText.{CalendarText}
use Rattle.lowfare.proofs.CalendarMakes.{tells_cells}
use Rattle.shop_book.specs.Asked.{priced_case}
use Rattle.shop_book.proofs.calendars.told.Goals as goal

pub returns-clause-text : goal.returns-clause-text
returns-clause-text c =
    let head = c.into_bytes-text.result.items in
    let version : head ≡ codes "version " ++ (decimal c.number-number.result ++ codes "\n") = search rules in
    tells_cells c.args.spans c.args.budget c.number-number.result (priced_case c.args.book.now c.args.request.now) c.args.cells.now head c.from_vec.result c.requires.cells c.number-number.ensures.value version
    (subst (Adds (CalendarText c.args.spans c.args.cells.now) head) (sym c.from_vec.ensures) c.in_ok-push_calendar.ensures)
