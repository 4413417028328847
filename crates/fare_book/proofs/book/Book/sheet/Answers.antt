use Rattle.fare_book.proofs.Finding.{sheet_found}
use Rattle.fare_book.proofs.book.Book.sheet.Goals as goal

pub returns : goal.returns
returns c = sheet_found c.self.inside.sheets.entries (record { from = c.args.from; to = c.args.to }) c.args.self.now _ c.get.result c.self.view_is c.get.ensures.value c.self.invariant.sheets_are
