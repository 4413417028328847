use Rattle.std.proofs.Common.{◌≡◌, Some, subst}
use Rattle.shop_book.specs.Held.{kept_book}
use Rattle.shop_book.specs.declared.handles.kept.Kept.{Kept}
use Rattle.fare_law.specs.Book.{Book}
use Rattle.shop_book.specs.Made.{Makes}
use Rattle.shop_book.specs.Asked.{filed}
use Rattle.shop_book.proofs.Keeping.{next_made}
use Rattle.shop_book.proofs.handles.books.lowfare_file.Goals as goal

-- a book is held, and what was made of the filing is its next version
pub returns-clause-next : goal.returns-clause-next
returns-clause-next c =
    let text = c.args.filing.now in
    let made = c.made_of_filing-made.result in
    next_made made c.args.book.now.owned.held c.in-Some.kept.value c.in-Some.ensures.taken c.hold-2.result c.hold-2.new.book c.hold-2.new.refusal c.hold-2.ensures (λ b. filed b text) text
    (subst (λ (k : Kept). (b : Book) → kept_book k ≡ Some b → Makes (filed b text) text made) c.deref.ensures c.made_of_filing-made.ensures.next)
