-- Sheets of a book.
use Rattle.std.proofs.Common.{sym, subst}
use Rattle.fare_law.specs.declared.names.Place.{Place}
use Rattle.fare_law.specs.Book.{Book}
use Rattle.fare_law.specs.Sheets.{Sheet, SheetOf}

pub own_sheet : (b : Book) (from to : Place) (sheet : Sheet) → SheetOf b from to sheet → SheetOf b sheet.from sheet.to sheet
own_sheet b from to sheet h = subst (λ p. SheetOf b p sheet.to sheet) (sym h.filed_from) (subst (λ p. SheetOf b from p sheet) (sym h.filed_to) h)
