use Rattle.shop_book.specs.Asked.{filed}
use Rattle.shop_book.proofs.Keeping.{next_is}
use Rattle.shop_book.proofs.handles.books.made_of_filing.Goals as goal

-- it is the next version of the book that is kept
pub returns-clause-next : goal.returns-clause-next
returns-clause-next c =
    let text = c.args.filing.now in
    next_is (λ b. filed b text) text c.next_of.result c.args.kept.now c.in_ok-book.book.now c.in_ok-book.ensures.book c.next_of.ensures
