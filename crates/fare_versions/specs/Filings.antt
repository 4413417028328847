-- What filing does to a book.
use Rattle.std.specs.Prelude.{ℕ, [], ◌∷◌, ◌++◌}
use Rattle.fare_law.specs.Book.{Book}
use Rattle.fare_law.specs.Faults.{Fault}
use Rattle.fare_law.specs.declared.filings.BookWhy.{BookWhy}
use Rattle.fare_law.specs.declared.filings.Filing.{Filing}

-- the book with one filing more
abbrev pub book_with : Book → Filing → Book
book_with b filing = record { timetable = b.timetable; entries = b.entries ++ filing ∷ [] }

-- the filing has no fault in this book
pub record IsFaultless (b : Book) (filing : Filing) : Type 0 where
  pub none : (at : ℕ) (why : BookWhy) → Fault b filing at why → ⊥
