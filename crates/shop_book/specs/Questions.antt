-- What is asked of a book: what may be replied, and which text is too long where one is.
use Rattle.std.specs.Prelude.{◌⊎◌, ℕ, List}
use Rattle.fare_law.specs.Book.{Book}
use Rattle.lowfare.specs.declared.status.Status.{Status}
use Rattle.shop_book.specs.Told.{IsLong}
use Rattle.shop_book.specs.declared.handles.questions.Question.{Question}
use Rattle.shop_book.specs.declared.handles.questions.Question.TheVariants.{Search, Check, Calendar, Verdict}
use Rattle.shop_book.specs.Replies.{Checked, Judged, Priced, Searched}

abbrev pub says : Question → Book → Status → List ℕ → Type 0
says (Search request best budget) b = Searched b best budget request.now
says (Check request certificate) b = Checked b request.now certificate.now
says (Calendar request spans budget) b = Priced b spans budget request.now
says (Verdict request ticket) b = Judged b request.now ticket.now

abbrev pub has_long : Question → Type 0
has_long (Search request best budget) = IsLong request.now
has_long (Check request certificate) = IsLong request.now ⊎ IsLong certificate.now
has_long (Calendar request spans budget) = IsLong request.now
has_long (Verdict request ticket) = IsLong ticket.now ⊎ IsLong request.now
