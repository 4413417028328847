-- What an open book keeps while filings go into it.
use Rattle.fare_law.specs.Book.{Book}
use Rattle.fare_book.specs.Drafts.{Drafts}
use Rattle.fare_book.specs.Keeping.{History}
use Rattle.fare_book.specs.declared.draft.Draft.{Draft}

-- the filings are a legal history, and the draft keeps what they leave
pub record KeepsDraft (b : Book) (d : Draft) : Type 0 where
  pub history : History b
  pub drafts : Drafts b d
