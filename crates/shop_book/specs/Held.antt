-- What a handle holds: a book, a text, or nothing.
use Rattle.std.specs.Prelude.{◌≡◌, ℕ, List, [], Option, None, Some}
use Rattle.std.specs.Arc.{arc_value}
use Rattle.shop_book.specs.declared.handles.Handle.{Handle}
use Rattle.shop_book.specs.declared.handles.kept.Kept.{Kept}
use Rattle.shop_book.specs.declared.handles.kept.Kept.TheVariants.{Book as KeptBook, Text as KeptText}
use Rattle.fare_law.specs.Book.{Book}

-- the book that is kept, if it is one
abbrev pub kept_book : Kept → Option Book
kept_book (KeptBook shared) = Some (arc_value shared)
kept_book (KeptText text) = None

-- the bytes of the text that is kept: none of a book
abbrev pub kept_bytes : Kept → List ℕ
kept_bytes (KeptBook shared) = []
kept_bytes (KeptText text) = text

-- the book among what is held, if it is one
abbrev pub held_book : Option Kept → Option Book
held_book None = None
held_book (Some kept) = kept_book kept

-- the bytes of the text that is held: none where none is held
abbrev pub held_bytes : Option Kept → List ℕ
held_bytes None = []
held_bytes (Some kept) = kept_bytes kept

-- the handle holds this book
abbrev pub HoldsBook : Handle → Book → Type 0
HoldsBook h b = held_book h.owned.held ≡ Some b

-- the handle holds a text or nothing
abbrev pub HoldsNoBook : Handle → Type 0
HoldsNoBook h = held_book h.owned.held ≡ None

-- the handle holds this text
abbrev pub HoldsText : Handle → List ℕ → Type 0
HoldsText h text = h.owned.held ≡ Some (KeptText text)

-- the handle holds nothing
abbrev pub HoldsNothing : Handle → Type 0
HoldsNothing h = h.owned.held ≡ None
