use Rattle.fare_book.proofs.OpenBooks.{opened}
use Rattle.fare_book.proofs.book.open_book.OpenBook.of.Goals as goal

pub invariant_of-result : goal.invariant_of-result
invariant_of-result c = opened _ _ c.book.invariant c.new.ensures.empty c.new-2.ensures.empty
