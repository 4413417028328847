use Rattle.fare_law.specs.Book.{Book}
use Rattle.fare_book.specs.Ready.{Ready}
use Rattle.fare_book.proofs.Placing.{PlacedSo}
use Rattle.fare_book.proofs.sheets.place_tables.Given as goal

abbrev pub invariant-loop-market : goal.invariant-loop-market
invariant-loop-market l = (b : Book) → Ready b l.initial.sheets.entries l.tables.entries l.rules.entries → PlacedSo b l.sheets.entries l.market-iterator
