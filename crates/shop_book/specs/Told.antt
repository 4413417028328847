-- What a call from C gives: a status, with a text in a handle, or what it lacks.
use Rattle.std.specs.Prelude.{◌≡◌, ◌⊎◌, ◌<◌, ◌≤◌, ◌++◌, ⊤, ℕ, zero, suc, min, take, drop, length, List, Option, None, Some, Result, Ok, Err}
use Rattle.shop_book.specs.Held.{HoldsBook, HoldsNoBook, HoldsNothing, HoldsText, held_bytes, kept_book}
use Rattle.shop_book.specs.declared.handles.Handle.{Handle}
use Rattle.shop_book.specs.declared.handles.kept.Kept.{Kept}
use Rattle.fare_law.specs.Book.{Book}
use Rattle.lowfare.specs.Inputs.{most_bytes}
use Rattle.lowfare.specs.Numbers.{number_of}
use Rattle.lowfare.specs.declared.status.Status.{Status}
use Rattle.shop_book.specs.declared.handles.lacks.Lack.{Lack}
use Rattle.shop_book.specs.declared.handles.lacks.Lack.TheVariants.{Memory, NoBook, TooLong}
use Rattle.lowfare.specs.declared.outcomes.Outcome.{Outcome}

-- the status for what is wanting
abbrev pub lack_number : Lack → ℕ
lack_number Memory = 5
lack_number TooLong = 8
lack_number NoBook = 16

-- the text has more bytes than a text may have
abbrev pub IsLong : List ℕ → Type 0
IsLong text = most_bytes < length text

-- the text is within the limit, or too long
abbrev pub Fits : Result (Unit {0}) Lack → List ℕ → Type 0
Fits (Ok u) text = length text ≤ most_bytes
Fits (Err TooLong) text = IsLong text
Fits (Err lack) text = ⊥

-- What was found is a reply of which this is so, or that a text is too long, of which `long` says which, unless memory was wanting.
abbrev pub Finds : (Status → List ℕ → Type 0) → Type 0 → Result Outcome Lack → Type 0
Finds says long (Ok reply) = says reply.status reply.text
Finds says long (Err Memory) = ⊤
Finds says long (Err TooLong) = long
Finds says long (Err NoBook) = ⊥

-- What was found is a reply of the book that is kept, or what is wanting, a book where none is kept.
pub record FindsOf (kept : Kept) (says : Book → Status → List ℕ → Type 0) (long : Type 0) (reply : Result Outcome Lack) : Type 0 where
  pub none : kept_book kept ≡ None → reply ≡ Err NoBook
  pub found : (b : Book) → kept_book kept ≡ Some b → Finds (says b) long reply

-- The reply was told, by its number and in the handle, or what is wanting: then the handle holds nothing.
abbrev pub Tells : Result Outcome Lack → ℕ → Handle → Type 0
Tells (Ok reply) status h = ((status ≡ number_of reply.status) × HoldsText h reply.text) ⊎ ((status ≡ 5) × HoldsNothing h)
Tells (Err lack) status h = (status ≡ lack_number lack) × HoldsNothing h

-- The status is that of a reply of which this is so, and the handle holds its text.
pub record Says (says : Status → List ℕ → Type 0) (status : ℕ) (h : Handle) : Type 0 where
  pub reply : Status
  pub text : List ℕ
  pub so : says reply text
  pub number : status ≡ number_of reply
  pub holds : HoldsText h text

-- the status is 5, that memory was wanting, or 8, that a text is too long, which it then is
abbrev pub IsWanting : Type 0 → ℕ → Type 0
IsWanting long status = (status ≡ 5) ⊎ ((status ≡ 8) × long)

-- what a call replies: something of which this is so, or what is wanting, and then the handle holds nothing
abbrev pub Replies : (Status → List ℕ → Type 0) → Type 0 → ℕ → Handle → Type 0
Replies says long status h = Says says status h ⊎ (IsWanting long status × HoldsNothing h)

-- A handle is asked, and holds what it held before. What a call replies is of the book that it holds; where it holds none the status is 16,
-- and the answer's handle holds nothing.
pub record Asks (before after : Handle) (says : Book → Status → List ℕ → Type 0) (long : Type 0) (status : ℕ) (answer : Handle) : Type 0 where
  pub same : after.owned.held ≡ before.owned.held
  pub none : HoldsNoBook before → (status ≡ 16) × HoldsNothing answer
  pub replies : (b : Book) → HoldsBook before b → Replies (says b) long status answer

-- how many tickets are asked for in place of the request's number: none at 0
abbrev pub best_of : ℕ → Option ℕ
best_of zero = None
best_of (suc n) = Some (min (suc n) 65535)

-- the length of what the handle holds
abbrev pub HasLength : Handle → ℕ → Type 0
HasLength h n = n ≡ length (held_bytes h.owned.held)

-- the front that fits was copied of the text that the handle holds
pub record IsCopied (h : Handle) (before after : List ℕ) (count : ℕ) : Type 0 where
  pub number : count ≡ min (length (held_bytes h.owned.held)) (length before)
  pub bytes : after ≡ take count (held_bytes h.owned.held) ++ drop count before
