use Rattle.std.proofs.Common.{◌∙◌, ap, length}
use Rattle.fare_law.specs.Book.{Book}
use Rattle.serve_desks.proofs.beside.last_number.Goals as goal

pub returns : goal.returns
returns c = c.number.ensures.value ∙ ap (λ (b : Book). length b.entries) (c.deref.ensures ∙ c.book.ensures)
