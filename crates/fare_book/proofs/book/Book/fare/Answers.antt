use Rattle.std.proofs.Common.{subst, sym}
use Rattle.fare_law.specs.Sheets.{SheetOf}
use Rattle.fare_book.proofs.LiveRows.{fare_found}
use Rattle.fare_book.proofs.book.Book.fare.Goals as goal

pub returns : goal.returns
returns c =
    fare_found c.args.self.now c.args.key.now c.deref.result.now c.row_of.result (subst (SheetOf c.args.self.now c.args.key.now.from c.args.key.now.to) (sym c.deref.ensures) c.in_ok-sheet.ensures) c.limits.ensures.stand c.row_of.ensures
